-- What the root does for all paths and commands.
use Rattle.std.specs.Prelude.{◌≡◌, ℕ, List, [], ◌∷◌, ◌++◌, true, ◌⊎◌, Some, None}
use Rattle.std.specs.List.{list_all}
use Rattle.texts.specs.Path.{joined}
use Rattle.compilers.specs.declared.plans.plan.NvccGeneratedSubcommand.{NvccGeneratedSubcommand}
use Rattle.command_files.specs.PlanNeeds.{step_of}
use Rattle.rooted_commands.specs.Paths.{behind, ends_name, own_path, place_of, rooted_path}
use Rattle.rooted_commands.specs.Commands.{rooted_command}
use Rattle.rooted_commands.specs.OwnTexts.{is_in_name, own_text}
use Rattle.rooted_commands.specs.declared.paths.Root.{Root}

-- One name in two checkouts, each named first by its own folder, has one rooted path, as a whole path or as one relative to the call. It is no
-- generated file's, and what is behind the folder is nothing or begins with `/`.
abbrev pub CheckoutsAgree : Type 0
CheckoutsAgree =
    (r s : Root) (folder other rest path name : List ℕ) (folders others : List (List ℕ))
    → r.folders ≡ folder ∷ folders → s.folders ≡ other ∷ others → r.root ≡ s.root → ends_name rest ≡ true
    → joined r.cwd path ≡ folder ++ rest → joined s.cwd name ≡ other ++ rest
    → behind r.tmp (folder ++ rest) ≡ None → behind s.tmp (other ++ rest) ≡ None
    → rooted_path r path ≡ rooted_path s name

-- Two paths that aren't below the root themselves have different rooted paths, unless they are one file of the checkout: the same is behind
-- its folders.
abbrev pub PathsStayDistinct : Type 0
PathsStayDistinct =
    (r : Root) (path other : List ℕ) → behind r.root path ≡ None → behind r.root other ≡ None → rooted_path r path ≡ rooted_path r other
    → (path ≡ other) ⊎ ((rest : List ℕ) × (place_of r path ≡ Some rest) × (place_of r other ≡ Some rest))

-- where the checkout has one name, they are one path, seen from the call's directory
abbrev pub OneFolderIsExact : Type 0
OneFolderIsExact =
    (r : Root) (folder path other : List ℕ) → r.folders ≡ folder ∷ [] → behind r.root path ≡ None → behind r.root other ≡ None
    → rooted_path r path ≡ rooted_path r other → joined r.cwd path ≡ joined r.cwd other

-- what needs and orders depend on stays: the record, the role in any group, and whether the command preprocesses
abbrev pub RootKeepsSteps : Type 0
RootKeepsSteps = (r : Root) (c : NvccGeneratedSubcommand) (count group : ℕ) → step_of count group (rooted_command r c) ≡ step_of count group c

-- the path of a plain name below the first folder comes back from its rooted path, in what a tool says
abbrev pub OwnPathsComeBack : Type 0
OwnPathsComeBack =
    (r : Root) (folder rest tail : List ℕ) (folders : List (List ℕ)) (c : ℕ) → r.folders ≡ folder ∷ folders → r.root ≡ c ∷ tail
    → list_all is_in_name rest ≡ true → own_text r (r.root ++ 47 ∷ rest) ≡ folder ++ 47 ∷ rest

-- what is below one checkout's folder is below another one's there, by its rooted path
abbrev pub RootedPathsLeadHome : Type 0
RootedPathsLeadHome =
    (r s : Root) (folder other rest path : List ℕ) (folders others : List (List ℕ))
    → r.folders ≡ folder ∷ folders → s.folders ≡ other ∷ others → r.root ≡ s.root → ends_name rest ≡ true
    → joined r.cwd path ≡ folder ++ rest → behind r.tmp (folder ++ rest) ≡ None
    → own_path s (rooted_path r path) ≡ other ++ rest
