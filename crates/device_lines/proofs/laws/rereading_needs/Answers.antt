-- The law of rereading is false without any of its premises.
use Rattle.std.proofs.Common.{◌≡◌, ℕ, List, [], true, false, Some, codes, refl, ap, sym, ◌∙◌, arith, bytes_eq}
use Rattle.std.proofs.lemmas.Bool.{false≢true}
use Prim.Native.String.{String}
use Rattle.texts.specs.Rows.{spaced}
use Rattle.compilers.specs.declared.command.SingleCompileCommand.{SingleCompileCommand}
use Rattle.compilers.specs.declared.command.Cacheable.{Cacheable}
use Rattle.compilers.specs.declared.command.Cacheable.TheVariants.{Yes}
use Rattle.compilers.specs.Command.{single_command}
use Rattle.device_lines.specs.Cicc.{cicc_reading}
use Rattle.device_lines.specs.CudaFE.{cudafe_reading}
use Rattle.device_lines.specs.Ptxas.{ptxas_reading}
use Rattle.device_lines.proofs.laws.rereading_needs.Goals as goal

-- two texts that a test tells apart
differ : (a b : List ℕ) → bytes_eq a b ≡ false → bytes_eq b b ≡ true → a ≡ b → ⊥
differ a b apart same e = false≢true (sym apart ∙ (ap (λ t. bytes_eq t b) e ∙ same))

-- two words that are equal as optional values
unwrapped : (a b : List ℕ) → Some a ≡ Some b → a ≡ b
unwrapped a b e = cc

-- two readings whose outputs have different paths
paths-differ : (a b : List ℕ) → bytes_eq a b ≡ false → bytes_eq b b ≡ true → Some (Some a) ≡ Some (Some b) → ⊥
paths-differ a b apart same e = grind (arith, differ)

-- the command that a line is written back as
abbrev back : String → String → SingleCompileCommand × Cacheable
back folder line = (single_command [] (spaced line) (codes folder) [], Yes)

pub returns : goal.returns
returns c = record {
  ptxas_empty_value = λ law.
      let again : ptxas_reading (codes "/w") (spaced "-arch k.ptx -o /w/k.cubin") ≡ ptxas_reading (codes "/w") (spaced "-arch= k.ptx -o k.cubin") =
      law (codes "/w") (spaced "-arch= k.ptx -o k.cubin") refl (omega arith) _ [] [] (back "/w" "-arch k.ptx -o /w/k.cubin") refl refl in
      grind arith;
  cicc_one_input = λ law.
      let again : cicc_reading (codes "/w") (spaced "-x b.cpp1.ii a.cpp1.ii -o /w/c") ≡ cicc_reading (codes "/w") (spaced "-x a.cpp1.ii b.cpp1.ii -o c") =
      law (codes "/w") (spaced "-x a.cpp1.ii b.cpp1.ii -o c") refl _ [] [] (back "/w" "-x b.cpp1.ii a.cpp1.ii -o /w/c") refl refl in
      grind (arith, differ, unwrapped);
  ptxas_one_input = λ law.
      let again : ptxas_reading (codes "/w") (spaced "-x b.ptx a.ptx -o /w/c") ≡ ptxas_reading (codes "/w") (spaced "-x a.ptx b.ptx -o c") =
      law (codes "/w") (spaced "-x a.ptx b.ptx -o c") refl (refl, (refl, (refl, tt))) _ [] [] (back "/w" "-x b.ptx a.ptx -o /w/c") refl refl in
      grind (arith, differ, unwrapped);
  cicc_absolute_folder = λ law.
      let again : cicc_reading (codes ".") (spaced "k.cpp1.ii -o ./p") ≡ cicc_reading (codes ".") (spaced "k.cpp1.ii -o p") =
      law (codes ".") (spaced "k.cpp1.ii -o p") (omega arith) _ [] [] (back "." "k.cpp1.ii -o ./p") refl refl in
      grind (arith, paths-differ);
  ptxas_absolute_folder = λ law.
      let again : ptxas_reading (codes ".") (spaced "k.ptx -o ./p") ≡ ptxas_reading (codes ".") (spaced "k.ptx -o p") =
      law (codes ".") (spaced "k.ptx -o p") (omega arith) (refl, tt) _ [] [] (back "." "k.ptx -o ./p") refl refl in
      grind (arith, paths-differ);
  cudafe_absolute_folder = λ law.
      let again : cudafe_reading (codes ".") (spaced "--module_id_file_name ./p x") ≡ cudafe_reading (codes ".") (spaced "--module_id_file_name p x") =
      law (codes ".") (spaced "--module_id_file_name p x") _ [] [] (back "." "--module_id_file_name ./p x") refl refl in
      grind (arith, paths-differ);
}
