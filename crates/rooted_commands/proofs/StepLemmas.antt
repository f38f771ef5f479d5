-- What needs depend on stays when names are rooted.
use Rattle.std.proofs.Common.{◌≡◌, ℕ, Bool, true, false, ◌||◌, ◌==◌, cond, nat_eq, length, List, [], ◌∷◌, ◌++◌, Some, None, refl, ap, ◌∙◌, bytes_eq, codes, option_and_then, append_assoc, arith}
use Rattle.std.specs.Bool.{beq}
use Rattle.std.specs.List.{flat_map, starts_with}
use Rattle.std.proofs.lemmas.Bool.{and_parts}
use Rattle.std.proofs.lemmas.Slice.Eq.{bytes_eq-Decides}
use Rattle.texts.proofs.EqualityLemmas.{lists, bools}
use Rattle.compilers.specs.Programs.{program_at}
use Rattle.compilers.specs.declared.plans.plan.NvccGeneratedSubcommand.{NvccGeneratedSubcommand}
use Rattle.compilers.specs.declared.plans.program.Program.{Program}
use Rattle.compilers.specs.declared.plans.program.Program.TheVariants as programs
use Rattle.command_files.specs.declared.files.CommandFiles.{CommandFiles}
use Rattle.command_files.specs.CommandFiles.{files_of_program, host_files, host_input, word_before}
use Rattle.command_files.specs.Files.{is_among}
use Rattle.command_files.specs.PlanNeeds.{preprocesses, step_of}
use Rattle.placed_commands.specs.PlacedCommands.{files_of, are_same, placed_command}
use Rattle.placed_commands.proofs.PlaceLemmas.{keeps-steps}
use Rattle.rooted_commands.specs.Commands.{keeps_record, with_words, if_kept, tool_words, file_map, folder_maps, file_maps, writes_names, rooted_host, placed_tool, rooted_by}
use Rattle.rooted_commands.specs.Laws.{RootKeepsSteps}
use Rattle.rooted_commands.specs.declared.paths.Root.{Root}

-- a tool's words change only if the record stays
same-files : (f g : CommandFiles) → are_same f g ≡ true → f ≡ g
same-files f g e = grind (arith, and_parts, (lists bytes_eq bytes_eq-Decides), bools)

pub keeps-files : (c d : NvccGeneratedSubcommand) → keeps_record c d ≡ true → files_of c ≡ files_of d
keeps-files c d e = same-files (files_of c) (files_of d) (and_parts (are_same (files_of c) (files_of d)) (beq (preprocesses c.args) (preprocesses d.args)) e).0

pub keeps-preprocessing : (c d : NvccGeneratedSubcommand) → keeps_record c d ≡ true → preprocesses c.args ≡ preprocesses d.args
keeps-preprocessing c d e =
    (bools (preprocesses c.args) (preprocesses d.args)).0 (and_parts (are_same (files_of c) (files_of d)) (beq (preprocesses c.args) (preprocesses d.args)) e).1

same-step : (count group : ℕ) (c : NvccGeneratedSubcommand) (words : List (List ℕ)) → files_of (with_words c words) ≡ files_of c → preprocesses words ≡ preprocesses c.args → step_of count group (with_words c words) ≡ step_of count group c
same-step count group c words files prep = grind arith

kept-step : (count group : ℕ) (c : NvccGeneratedSubcommand) (words : List (List ℕ)) → step_of count group (if_kept c (with_words c words)) ≡ step_of count group c
kept-step count group c words =
    let d = with_words c words in
    elim (keeps_record d c) as (λ b. keeps_record d c ≡ b → step_of count group (cond b d c) ≡ step_of count group c) [
      | true ↦ λ e.
          let parts = and_parts (are_same (files_of d) (files_of c)) (beq (preprocesses words) (preprocesses c.args)) e in
          same-step count group c words (same-files (files_of d) (files_of c) parts.0) ((bools (preprocesses words) (preprocesses c.args)).0 parts.1)
      | false ↦ λ _. refl
    ] refl

tool-step : (r : Root) (tool : Program) (c : NvccGeneratedSubcommand) (count group : ℕ) → step_of count group (placed_tool r tool c) ≡ step_of count group c
tool-step r tool c count group =
    let placed = placed_command r.tmp (codes "/") c in
    kept-step count group placed (tool_words r tool placed.args) ∙ keeps-steps r.tmp (codes "/") c count group

-- what doesn't see one of gcc's maps in front of words sees none of them
module _ {X : Type 0} (seen : List (List ℕ) → X) (unseen : (old new end : List ℕ) (ws : List (List ℕ)) → seen (file_map old new end ∷ ws) ≡ seen ws) where
  folder-unseen : (r : Root) (within : Bool) (folder : List ℕ) (ws : List (List ℕ)) → seen (folder_maps r within folder ++ ws) ≡ seen ws
  folder-unseen r true folder ws = unseen folder r.root (codes "/") (file_map folder r.root [] ∷ ws) ∙ unseen folder r.root [] ws
  folder-unseen r false folder ws = unseen folder r.root (codes "/") ws

  folders-unseen : (r : Root) (within : Bool) (folders ws : List (List ℕ)) → seen (flat_map (folder_maps r within) folders ++ ws) ≡ seen ws
  folders-unseen r within [] ws = refl
  folders-unseen r within (folder ∷ folders) ws =
      ap seen (append_assoc (folder_maps r within folder) (flat_map (folder_maps r within) folders) ws)
      ∙ folder-unseen r within folder (flat_map (folder_maps r within) folders ++ ws)
      ∙ folders-unseen r within folders ws

  maps-unseen : (r : Root) (cwd : List ℕ) (ws : List (List ℕ)) → seen (file_maps r cwd ++ ws) ≡ seen ws
  maps-unseen r cwd ws =
      let maps = flat_map (folder_maps r (is_among r.folders cwd)) r.folders in
      let last = file_map r.tmp (codes "/tmp") [] in
      ap seen (append_assoc maps (last ∷ []) ws) ∙ folders-unseen r (is_among r.folders cwd) r.folders (last ∷ ws) ∙ unseen r.tmp (codes "/tmp") [] ws

-- a host compiler's record and whether it preprocesses don't
not-empty : (c : ℕ) (cs : List ℕ) → (length (c ∷ cs) == 0) ≡ false
not-empty c cs = grind arith

no-input : (old new end : List ℕ) (ws : List (List ℕ)) → host_input (file_map old new end ∷ ws) ≡ host_input ws
no-input old new end [] = refl
no-input old new end (w ∷ ws) =
    elim (bytes_eq (codes "-o") w)
    as (λ b.
    option_and_then (λ word. cond ((length word == 0) || starts_with nat_eq word (codes "-")) None (Some word)) (cond b (Some (file_map old new end)) (word_before (codes "-o") (Some w) ws))
    ≡ option_and_then (λ word. cond ((length word == 0) || starts_with nat_eq word (codes "-")) None (Some word)) (cond b None (word_before (codes "-o") (Some w) ws))) [
      | true ↦ ap (λ b. cond (b || starts_with nat_eq (file_map old new end) (codes "-")) None (Some (file_map old new end))) (not-empty 45 (codes "ffile-prefix-map=" ++ (old ++ (end ++ (codes "=" ++ (new ++ end))))))
      | false ↦ refl
    ]

files-unseen : (cwd old new end : List ℕ) (ws : List (List ℕ)) → host_files cwd (file_map old new end ∷ ws) ≡ host_files cwd ws
files-unseen cwd old new end ws = let same = no-input old new end ws in grind arith

by-host : (r : Root) (c : NvccGeneratedSubcommand) (program : Program) → program ≡ programs.Other → files_of_program program c.cwd (file_maps r c.cwd ++ c.args) ≡ files_of_program program c.cwd c.args
by-host r c program is = rw is (maps-unseen (host_files c.cwd) (files-unseen c.cwd) r c.cwd c.args)

host-step : (r : Root) (c : NvccGeneratedSubcommand) (count group : ℕ) → program_at c.exe ≡ programs.Other → step_of count group (rooted_host r c) ≡ step_of count group c
host-step r c count group is =
    elim (writes_names c.args) as (λ b. step_of count group (cond b (with_words c (file_maps r c.cwd ++ c.args)) c) ≡ step_of count group c) [
      | true ↦
          same-step count group c (file_maps r c.cwd ++ c.args) (by-host r c (program_at c.exe) is) (maps-unseen preprocesses (λ old new end ws. refl) r c.cwd c.args)
      | false ↦ refl
    ]

pub root-keeps-steps : RootKeepsSteps
root-keeps-steps r c count group =
    elim (program_at c.exe) as (λ p. program_at c.exe ≡ p → step_of count group (rooted_by r p c) ≡ step_of count group c) [
      | programs.Cicc ↦ λ _. tool-step r programs.Cicc c count group
      | programs.Cudafe ↦ λ _. tool-step r programs.Cudafe c count group
      | programs.Ptxas ↦ λ _. tool-step r programs.Ptxas c count group
      | programs.Fatbinary ↦ λ _. tool-step r programs.Fatbinary c count group
      | programs.Nvlink ↦ λ _. tool-step r programs.Nvlink c count group
      | programs.Other ↦ λ is. host-step r c count group is
    ] refl
