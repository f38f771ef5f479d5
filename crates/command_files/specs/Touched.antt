-- Files with the numbers of the commands that touch them: how the code finds what a command needs.
use Rattle.std.specs.Prelude.{ℕ, ◌+◌, List, [], ◌∷◌, ◌++◌, Option, nat_lt, if◌then◌else◌, filter, take, Contains, bytes_eq}
use Rattle.std.specs.HashMap.{get_by}
use Rattle.std.specs.Option.{option_map_or}
use Rattle.command_files.specs.declared.steps.Role.{Role}
use Rattle.command_files.specs.declared.steps.Role.TheVariants as roles
use Rattle.command_files.specs.declared.steps.Step.{Step}
use Rattle.command_files.specs.declared.touched.Touched.{Touched}
use Rattle.command_files.specs.declared.touched.Users.{Users}
use Rattle.command_files.specs.Order.{numbers_where}
use Rattle.command_files.specs.PlanNeeds.{role_needs}

-- the numbers of each file
abbrev pub Numbers : Type 0
Numbers = List ℕ → List ℕ

abbrev pub no_numbers : Numbers
no_numbers path = []

-- a number more for a file, and for files
abbrev pub with_number : Numbers → List ℕ → ℕ → Numbers
with_number numbers path n = λ other. if bytes_eq other path then numbers other ++ n ∷ [] else numbers other

abbrev pub with_numbers : Numbers → List (List ℕ) → ℕ → Numbers
with_numbers numbers [] n = numbers
with_numbers numbers (path ∷ paths) n = with_numbers (with_number numbers path n) paths n

-- how the code holds them: those that read each file, and those that write it
abbrev pub users_of : Touched → List ℕ → Option Users
users_of t path = get_by (λ k. bytes_eq path k.now) t.users

abbrev pub readers_seen : Touched → Numbers
readers_seen t path = option_map_or (λ u. u.readers.items) (users_of t path) []

abbrev pub writers_seen : Touched → Numbers
writers_seen t path = option_map_or (λ u. u.writers.items) (users_of t path) []

-- the files that a command reads, and those that it writes
abbrev pub read_by : Step → List (List ℕ)
read_by s = s.files.reads

abbrev pub written_by : Step → List (List ℕ)
written_by s = s.files.writes ++ s.files.may_write

-- commands from a number on, by the files that each chooses
abbrev pub numbers_from : (Step → List (List ℕ)) → Numbers → ℕ → List Step → Numbers
numbers_from files numbers n [] = numbers
numbers_from files numbers n (s ∷ steps) = numbers_from files (with_numbers numbers (files s) n) (n + 1) steps

-- those before the command with a number, by the files that they read, and by those that they write
abbrev pub readers_before : ℕ → List Step → Numbers
readers_before n steps = numbers_from read_by no_numbers 0 (take n steps)

abbrev pub writers_before : ℕ → List Step → Numbers
writers_before n steps = numbers_from written_by no_numbers 0 (take n steps)

-- the commands that a role needs
abbrev pub role_numbers : Role → List Step → List ℕ
role_numbers role steps = numbers_where (λ e. role_needs role e.role) 0 steps

abbrev pub numbers_for : List ℕ → List ℕ → Role → List ℕ
numbers_for fronts all roles.Plain = []
numbers_for fronts all roles.FrontStep = []
numbers_for fronts all roles.DeviceStep = fronts
numbers_for fronts all roles.Final = all

-- numbers below a bound, and those of files
abbrev pub below : ℕ → List ℕ → List ℕ
below bound numbers = filter (λ m. nat_lt m bound) numbers

abbrev pub touching : ℕ → Numbers → List (List ℕ) → List ℕ
touching bound numbers [] = []
touching bound numbers (path ∷ paths) = below bound (numbers path) ++ touching bound numbers paths

-- those below a bound that write a file or read it
abbrev pub touching_either : ℕ → Numbers → Numbers → List (List ℕ) → List ℕ
touching_either bound readers writers [] = []
touching_either bound readers writers (path ∷ paths) =
    (below bound (writers path) ++ below bound (readers path)) ++ touching_either bound readers writers paths

-- all numbers that a command's needs are found in, some of them more than once. Its own may be among the readers: it isn't below itself
abbrev pub gathered : Numbers → Numbers → List ℕ → ℕ → Step → List ℕ
gathered readers writers others n s =
    touching n writers (read_by s) ++ (touching_either n (with_numbers readers (read_by s) n) writers (written_by s) ++ below n others)

-- two lists have the same elements
pub record SameElements (some others : List ℕ) : Type 0 where
  pub kept : (n : ℕ) → Contains some n → Contains others n
  pub among : (n : ℕ) → Contains others n → Contains some n
