-- What is claimed of the merged list, for all runs.
use Rattle.std.specs.Prelude.{◌≡◌, ℕ, List, [], ◌∷◌, ◌++◌, Bool, true, ◌&&◌, ◌||◌, ◌==◌, nat_lt, map, IsPermutation}
use Rattle.std.specs.List.{list_all}
use Rattle.compilers.specs.CommandLines.{CommandLine}
use Rattle.command_groups.specs.Merge.{MergedCommand, selected, is_nvcc_stem, is_host_stem, of_run, is_in_order, merged}

-- each element of a list stands as a test says to all that follow it
abbrev pub AllStand : {X : Type 0} → (X → X → Bool) → List X → Type 0
AllStand test [] = Unit {0}
AllStand test (x ∷ xs) = (list_all (test x) xs ≡ true) × AllStand test xs

-- commands stand in order of line and run
abbrev pub InOrder : List MergedCommand → Type 0
InOrder cs = AllStand is_in_order cs

abbrev pub MergedAreTheSelected : Type 0
MergedAreTheSelected =
    (first second : List CommandLine) → IsPermutation
    (map (of_run 1) (selected is_nvcc_stem first) ++ map (of_run 2) (selected is_host_stem second))
    (merged first second)

-- numbers rise strictly: each is below all that follow it
abbrev pub Rises : List ℕ → Type 0
Rises ns = AllStand nat_lt ns

-- whether a command stands before another one by its line, or on one line by its run
abbrev pub is_before : MergedCommand → MergedCommand → Bool
is_before a b = nat_lt a.line b.line || ((a.line == b.line) && nat_lt a.run b.run)

-- commands rise strictly: each stands before all that follow it
abbrev pub RisesInOrder : List MergedCommand → Type 0
RisesInOrder cs = AllStand is_before cs
