-- What stays of a command that runs in the call's own directory.
use Rattle.std.proofs.Common.{◌≡◌, ◌⊎◌, inl, inr, ℕ, suc, ◌+◌, ◌&&◌, Bool, true, false, not, cond, List, [], ◌∷◌, ◌++◌, refl, ap, sym, ◌∙◌, map, length, bytes_eq, eqb, arith}
use Rattle.std.proofs.lemmas.Bool.{false≢true, and_parts}
use Rattle.std.proofs.lemmas.Slice.Eq.{bytes_eq-Decides}
use Rattle.texts.specs.Path.{joined}
use Rattle.texts.proofs.EqualityLemmas.{lists, bools}
use Rattle.compilers.specs.declared.plans.plan.NvccGeneratedSubcommand.{NvccGeneratedSubcommand}
use Rattle.compilers.specs.Listed.{Listed, listed_group, listed_from, listed}
use Rattle.command_files.specs.declared.files.CommandFiles.{CommandFiles}
use Rattle.command_files.specs.PlanNeeds.{preprocesses, step_of, step_in}
use Rattle.placed_commands.specs.PlacedWords.{is_file, placed_from, placed_words}
use Rattle.placed_commands.specs.PlacedCommands.{files_of, moved, are_same, has_record, placed_tool, placed_command}
use Rattle.placed_commands.specs.Laws.{KeepsCount, ChangesEnds, KeepsSteps, KeepsPlanSteps}

placed-length : (files : CommandFiles) (folder before : List ℕ) (ws : List (List ℕ)) → length (placed_words files folder before ws) ≡ length ws
placed-length files folder before [] = refl
placed-length files folder before (w ∷ ws) = ap suc (placed-length files folder w ws)

pub keeps-count : KeepsCount
keeps-count tmp cwd c =
    elim (bytes_eq c.cwd tmp && not (preprocesses c.args)) as (λ b. length (cond b (placed_tool cwd c) c).args ≡ length c.args) [
      | true ↦ elim (has_record (moved (files_of c) cwd c) (files_of c)) as (λ b. length (cond b (moved (files_of c) cwd c) c).args ≡ length c.args) [
        | true ↦ placed-length (files_of c) c.cwd [] c.args
        | false ↦ refl
      ]
      | false ↦ refl
    ]

-- what becomes of a word from a place in it on
abbrev EndsFrom : CommandFiles → List ℕ → List ℕ → List ℕ → Type 0
EndsFrom files folder word placed =
    (placed ≡ word) ⊎ ((head : List ℕ) × (name : List ℕ) × (word ≡ head ++ name) × (is_file files folder name ≡ true) × (placed ≡ head ++ joined folder name))

behind-one : (files : CommandFiles) (folder : List ℕ) (c : ℕ) (cs placed : List ℕ) → EndsFrom files folder cs placed → EndsFrom files folder (c ∷ cs) (c ∷ placed)
behind-one files folder c cs placed (inl same) = inl (ap (λ t. c ∷ t) same)
behind-one files folder c cs placed (inr (head, name, whole, file, is)) = inr (c ∷ head, name, ap (λ t. c ∷ t) whole, file, ap (λ t. c ∷ t) is)

ends-from : (files : CommandFiles) (folder : List ℕ) (begins : Bool) (word : List ℕ) → EndsFrom files folder word (placed_from files folder begins word)
ends-from files folder begins [] =
    elim (begins && is_file files folder []) as (λ b. (begins && is_file files folder []) ≡ b → EndsFrom files folder [] (cond b (joined folder []) [])) [
      | true ↦ λ e. inr ([], [], refl, (and_parts begins (is_file files folder []) e).1, refl)
      | false ↦ λ _. inl refl
    ] refl
ends-from files folder begins (c ∷ cs) =
    elim (begins && is_file files folder (c ∷ cs))
    as (λ b. (begins && is_file files folder (c ∷ cs)) ≡ b → EndsFrom files folder (c ∷ cs) (cond b (joined folder (c ∷ cs)) (c ∷ placed_from files folder (eqb c 61) cs))) [
      | true ↦ λ e. inr ([], c ∷ cs, refl, (and_parts begins (is_file files folder (c ∷ cs)) e).1, refl)
      | false ↦ λ _. behind-one files folder c cs (placed_from files folder (eqb c 61) cs) (ends-from files folder (eqb c 61) cs)
    ] refl

pub changes-ends : ChangesEnds
changes-ends files folder word = ends-from files folder true word

-- equal records
same-files : (f g : CommandFiles) → are_same f g ≡ true → f ≡ g
same-files f g e = grind (arith, and_parts, (lists bytes_eq bytes_eq-Decides), bools)

-- a placed tool that counts has the record, and neither preprocesses
not-true : (b : Bool) → not b ≡ true → b ≡ false
not-true true e = absurd (false≢true e)
not-true false e = refl

same-step : (count group : ℕ) (c d : NvccGeneratedSubcommand) → d.exe ≡ c.exe → files_of d ≡ files_of c → preprocesses d.args ≡ preprocesses c.args → step_of count group d ≡ step_of count group c
same-step count group c d exe files prep = grind arith

tool-step : (cwd : List ℕ) (c : NvccGeneratedSubcommand) (count group : ℕ) → preprocesses c.args ≡ false → step_of count group (placed_tool cwd c) ≡ step_of count group c
tool-step cwd c count group none =
    let d = moved (files_of c) cwd c in
    elim (has_record d (files_of c)) as (λ b. has_record d (files_of c) ≡ b → step_of count group (cond b d c) ≡ step_of count group c) [
      | true ↦ λ e.
          let parts = and_parts (are_same (files_of d) (files_of c)) (not (preprocesses d.args)) e in
          same-step count group c d refl (same-files (files_of d) (files_of c) parts.0) (not-true (preprocesses d.args) parts.1 ∙ sym none)
      | false ↦ λ _. refl
    ] refl

pub keeps-steps : KeepsSteps
keeps-steps tmp cwd c count group =
    elim (bytes_eq c.cwd tmp && not (preprocesses c.args)) as (λ b. (bytes_eq c.cwd tmp && not (preprocesses c.args)) ≡ b → step_of count group (cond b (placed_tool cwd c) c) ≡ step_of count group c) [
      | true ↦ λ e. tool-step cwd c count group (not-true (preprocesses c.args) (and_parts (bytes_eq c.cwd tmp) (not (preprocesses c.args)) e).1)
      | false ↦ λ _. refl
    ] refl

-- the commands of a group in front of others, and of groups from a number on
group-steps : (tmp cwd : List ℕ) (count group place : ℕ) (cs : List NvccGeneratedSubcommand) (placed others : List Listed) → map (step_in count) placed ≡ map (step_in count) others →
    map (step_in count) (listed_group group place (map (placed_command tmp cwd) cs) ++ placed) ≡ map (step_in count) (listed_group group place cs ++ others)
group-steps tmp cwd count group place [] placed others e = e
group-steps tmp cwd count group place (c ∷ cs) placed others e =
    λ i. keeps-steps tmp cwd c count group i ∷ group-steps tmp cwd count group (place + 1) cs placed others e i

groups-steps : (tmp cwd : List ℕ) (count group : ℕ) (groups : List (List NvccGeneratedSubcommand)) →
    map (step_in count) (listed_from group (map (map (placed_command tmp cwd)) groups)) ≡ map (step_in count) (listed_from group groups)
groups-steps tmp cwd count group [] = refl
groups-steps tmp cwd count group (cs ∷ groups) = group-steps tmp cwd count group 0 cs _ _ (groups-steps tmp cwd count (group + 1) groups)

groups-count : (tmp cwd : List ℕ) (groups : List (List NvccGeneratedSubcommand)) → length (map (map (placed_command tmp cwd)) groups) ≡ length groups
groups-count tmp cwd [] = refl
groups-count tmp cwd (cs ∷ groups) = ap suc (groups-count tmp cwd groups)

pub keeps-plan-steps : KeepsPlanSteps
keeps-plan-steps tmp cwd plan =
    ap (λ n. map (step_in n) (listed (map (map (placed_command tmp cwd)) plan.groups))) (groups-count tmp cwd plan.groups)
    ∙ groups-steps tmp cwd (length plan.groups) 0 plan.groups
