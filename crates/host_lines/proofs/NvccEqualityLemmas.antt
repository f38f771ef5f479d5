-- `==` on nvcc and on its commands says whether they are equal.
use Rattle.std.proofs.Common.{◌≡◌, ◌&&◌, Bool, ap, nat_eq, rules, Decides, arith}
use Rattle.std.specs.Option.{option_eq}
use Rattle.std.specs.Cmp.Lexicographic.{pointwise}
use Rattle.std.proofs.lemmas.Bool.Decides.{Decides-and, Decides-like, Decides-eqb}
use Rattle.std.proofs.lemmas.Slice.Eq.{bytes_eq-Decides}
use denote.Enum.Bare.{sameb, same_true, true_same}
use Rattle.texts.proofs.EqualityLemmas.{lists, options, same_variables, variables}
use Rattle.compilers.specs.contracts.compiler.NvccHostCompiler as host
use Rattle.compilers.specs.declared.compiler.NvccHostCompiler.{NvccHostCompiler}
use Rattle.host_lines.specs.declared.nvcc.compiler.Nvcc.{Nvcc}
use Rattle.host_lines.specs.declared.nvcc.command.NvccCompileCommand.{NvccCompileCommand}

-- compilers of host code
hosts : (a b : NvccHostCompiler) → Decides (sameb host.the_type a b) (a ≡ b)
hosts a b = (same_true host.the_type (search rules) a b, true_same host.the_type a b)

-- nvcc, as a compiler
abbrev same_compilers : Nvcc → Nvcc → Bool
same_compilers a b = sameb host.the_type a.host_compiler b.host_compiler && (option_eq (pointwise nat_eq) a.host_compiler_version b.host_compiler_version && option_eq (pointwise nat_eq) a.version b.version)

pub compilers : (a b : Nvcc) → Decides (same_compilers a b) (a ≡ b)
compilers a b = grind (arith, Decides-like, Decides-and, hosts, options, bytes_eq-Decides)

-- calls of nvcc
abbrev same_commands : NvccCompileCommand → NvccCompileCommand → Bool
same_commands a b = pointwise nat_eq a.temp_dir b.temp_dir && (option_eq (pointwise nat_eq) a.keep_dir b.keep_dir && (nat_eq a.num_parallel b.num_parallel && (pointwise nat_eq a.executable b.executable && (pointwise (pointwise nat_eq) a.arguments b.arguments && (pointwise nat_eq a.compilation_flag b.compilation_flag && (same_variables a.env_vars b.env_vars && (pointwise nat_eq a.cwd b.cwd && (sameb host.the_type a.host_compiler b.host_compiler && pointwise nat_eq a.output_file_name b.output_file_name))))))))

pub commands : (a b : NvccCompileCommand) → Decides (same_commands a b) (a ≡ b)
commands a b =
    Decides-like (same_commands a b)
    (λ e. λ i. record { temp_dir = e.0 i; keep_dir = e.1.0 i; num_parallel = e.1.1.0 i; executable = e.1.1.1.0 i; arguments = e.1.1.1.1.0 i; compilation_flag = e.1.1.1.1.1.0 i; env_vars = e.1.1.1.1.1.1.0 i; cwd = e.1.1.1.1.1.1.1.0 i; host_compiler = e.1.1.1.1.1.1.1.1.0 i; output_file_name = e.1.1.1.1.1.1.1.1.1 i })
    (λ e. (ap (λ x. x.temp_dir) e, (ap (λ x. x.keep_dir) e, (ap (λ x. x.num_parallel) e, (ap (λ x. x.executable) e, (ap (λ x. x.arguments) e, (ap (λ x. x.compilation_flag) e, (ap (λ x. x.env_vars) e, (ap (λ x. x.cwd) e, (ap (λ x. x.host_compiler) e, ap (λ x. x.output_file_name) e))))))))))
    (Decides-and (pointwise nat_eq a.temp_dir b.temp_dir) _ (bytes_eq-Decides a.temp_dir b.temp_dir)
    (Decides-and (option_eq (pointwise nat_eq) a.keep_dir b.keep_dir) _ (options (pointwise nat_eq) bytes_eq-Decides a.keep_dir b.keep_dir)
    (Decides-and (nat_eq a.num_parallel b.num_parallel) _ (Decides-eqb a.num_parallel b.num_parallel)
    (Decides-and (pointwise nat_eq a.executable b.executable) _ (bytes_eq-Decides a.executable b.executable)
    (Decides-and (pointwise (pointwise nat_eq) a.arguments b.arguments) _ (lists (pointwise nat_eq) bytes_eq-Decides a.arguments b.arguments)
    (Decides-and (pointwise nat_eq a.compilation_flag b.compilation_flag) _ (bytes_eq-Decides a.compilation_flag b.compilation_flag)
    (Decides-and (same_variables a.env_vars b.env_vars) _ (variables a.env_vars b.env_vars)
    (Decides-and (pointwise nat_eq a.cwd b.cwd) _ (bytes_eq-Decides a.cwd b.cwd)
    (Decides-and (sameb host.the_type a.host_compiler b.host_compiler) (pointwise nat_eq a.output_file_name b.output_file_name) (hosts a.host_compiler b.host_compiler) (bytes_eq-Decides a.output_file_name b.output_file_name))))))))))
