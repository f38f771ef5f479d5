-- In which orders the commands of a plan may run.
use Rattle.std.specs.Prelude.{◌≡◌, ℕ, ◌+◌, ◌<◌, List, [], ◌∷◌, ◌++◌, Bool, true, false, ◌&&◌, ◌||◌, ◌==◌, nat_lt, if◌then◌else◌, Option, Some, None, map, filter, length, get_or, IsPermutation}
use Rattle.std.specs.List.{list_any, list_all, range_with_len}
use Rattle.command_files.specs.Files.{Files, is_among, touches}

-- Commands are numbered by their places in the plan, from 0. Each needs some of the earlier ones.

-- the numbers, from a number on, of the items of a list that pass a test
abbrev pub numbers_where : {X : Type 0} → (X → Bool) → ℕ → List X → List ℕ
numbers_where test n [] = []
numbers_where test n (x ∷ xs) = (if test x then n ∷ [] else []) ++ numbers_where test (n + 1) xs

-- for each command the numbers of the earlier ones that it needs, by a test of an earlier command and a later one
abbrev pub needs_behind : {X : Type 0} → (X → X → Bool) → List X → List X → List (List ℕ)
needs_behind needed earlier [] = []
needs_behind needed earlier (x ∷ xs) = numbers_where (λ e. needed e x) 0 earlier ∷ needs_behind needed (earlier ++ x ∷ []) xs

abbrev pub needs_by : {X : Type 0} → (X → X → Bool) → List X → List (List ℕ)
needs_by needed commands = needs_behind needed [] commands

-- whether a number is in a list
abbrev pub is_in : List ℕ → ℕ → Bool
is_in numbers n = list_any (λ m. m == n) numbers

-- whether an order puts each command after all those that it needs, if some commands have run already
abbrev pub is_ready : (ℕ → List ℕ) → List ℕ → List ℕ → Bool
is_ready needs done [] = true
is_ready needs done (n ∷ ns) = list_all (is_in done) (needs n) && is_ready needs (n ∷ done) ns

-- what the command with a number needs
abbrev pub needs_at : List (List ℕ) → ℕ → List ℕ
needs_at needs n = get_or needs n []

-- the order of the plan itself
abbrev pub own_order : List (List ℕ) → List ℕ
own_order needs = range_with_len 0 (length needs)

-- an order of all commands that puts each after all those that it needs
pub record IsOrder (needs : List (List ℕ)) (order : List ℕ) : Type 0 where
  pub each_once : IsPermutation (own_order needs) order
  pub ready : is_ready (needs_at needs) [] order ≡ true

-- some of the commands, each once and after all those that it needs: what has run when a run ends, or when it stops early because a
-- command failed
pub record IsRun (needs : List (List ℕ)) (ran : List ℕ) : Type 0 where
  pub each_once : IsPermutation (filter (is_in ran) (own_order needs)) ran
  pub ready : is_ready (needs_at needs) [] ran ≡ true

-- whether one of two commands needs the other, the later one the earlier: then no order swaps them
abbrev pub are_ordered : List (List ℕ) → ℕ → ℕ → Bool
are_ordered needs m n = if nat_lt m n then is_in (needs_at needs n) m else is_in (needs_at needs m) n

-- whether a command has one place in all orders: it needs all before it, and all behind it need it, as in the final group of a plan
abbrev pub has_one_place : List (List ℕ) → ℕ → Bool
has_one_place needs n = list_all (λ m. m == n || are_ordered needs m n) (own_order needs)

-- A command is a function of what files hold.

-- what each file holds, or that there is no such file
abbrev pub Contents : Type 0
Contents = List ℕ → Option (List ℕ)

abbrev pub Effect : Type 0
Effect = Contents → Contents

-- what files hold after the commands of an order, which have their effects by their numbers
abbrev pub contents_after : (ℕ → Effect) → List ℕ → Contents → Contents
contents_after effects [] contents = contents
contents_after effects (n ∷ ns) contents = contents_after effects ns (effects n contents)

-- what the files that a command reads hold when its turn comes, if it is in the order
abbrev pub contents_read : (ℕ → Files) → (ℕ → Effect) → ℕ → List ℕ → Contents → Option (List (Option (List ℕ)))
contents_read files effects command [] contents = None
contents_read files effects command (n ∷ ns) contents =
    if n == command then Some (map contents (files n).reads) else contents_read files effects command ns (effects n contents)

-- the record of the command with a number
abbrev pub files_at : List Files → ℕ → Files
files_at plan n = get_or plan n (record { reads = []; writes = [] })

-- the commands of a plan that write a file
abbrev pub writers : List Files → List ℕ → List ℕ
writers plan file = numbers_where (λ f. is_among f.writes file) 0 plan

-- Whether a command may look at a file: its record has it, or each command that writes it is ordered with this one. So it may look at
-- what no command writes, such as headers, and at what the commands write that it needs.
abbrev pub may_see : List Files → List (List ℕ) → ℕ → List ℕ → Bool
may_see plan needs n file = touches (files_at plan n) file || list_all (are_ordered needs n) (writers plan file)

-- A command stays within its record: it changes only files that it writes, and what it leaves in them depends only on files that it
-- may see. Scratch files that a command makes for itself are no files here.
pub record StaysWithin (plan : List Files) (needs : List (List ℕ)) (n : ℕ) (effect : Effect) : Type 0 where
  pub changes : (contents : Contents) (file : List ℕ) → is_among (files_at plan n).writes file ≡ false → effect contents file ≡ contents file
  pub depends :
      (one other : Contents)
      → ((file : List ℕ) → may_see plan needs n file ≡ true → one file ≡ other file)
      → (file : List ℕ) → is_among (files_at plan n).writes file ≡ true → effect one file ≡ effect other file

-- all commands stay within their records but those that have one place: these may read and change any file
abbrev pub AllStayWithin : List Files → List (List ℕ) → (ℕ → Effect) → Type 0
AllStayWithin plan needs effects = (n : ℕ) → n < length plan → has_one_place needs n ≡ false → StaysWithin plan needs n (effects n)

-- one order does what another one does: it leaves the same in every file, and each command reads the same
pub record DoesTheSame (plan : List Files) (effects : ℕ → Effect) (contents : Contents) (one other : List ℕ) : Type 0 where
  pub leaves : (file : List ℕ) → contents_after effects one contents file ≡ contents_after effects other contents file
  pub reads : (command : ℕ) → contents_read (files_at plan) effects command one contents ≡ contents_read (files_at plan) effects command other contents

-- needs hold a test: each command needs all earlier ones at which the test holds
pub record Hold (test : Files → Files → Bool) (plan : List Files) (needs : List (List ℕ)) : Type 0 where
  pub each : length needs ≡ length plan
  pub needed : (i j : ℕ) → i < j → j < length plan → test (files_at plan i) (files_at plan j) ≡ true → is_in (needs_at needs j) i ≡ true

-- by needs that hold a test every order does what the plan's own order does, whatever the commands do within their records
abbrev pub OrdersAgree : (Files → Files → Bool) → Type 0
OrdersAgree test =
    (plan : List Files) (needs : List (List ℕ)) (order : List ℕ) (effects : ℕ → Effect) (contents : Contents)
    → Hold test plan needs
    → IsOrder needs order
    → AllStayWithin plan needs effects
    → DoesTheSame plan effects contents order (own_order needs)

-- and every run does what its commands do in the plan's own order, so a run that stops early leaves what they leave
abbrev pub RunsAgree : (Files → Files → Bool) → Type 0
RunsAgree test =
    (plan : List Files) (needs : List (List ℕ)) (ran : List ℕ) (effects : ℕ → Effect) (contents : Contents)
    → Hold test plan needs
    → IsRun needs ran
    → AllStayWithin plan needs effects
    → DoesTheSame plan effects contents ran (filter (is_in ran) (own_order needs))

-- the needs by a test hold it, and the plan's own order is an order by them
abbrev pub NeedsHold : Type 0
NeedsHold = (test : Files → Files → Bool) (plan : List Files) → Hold test plan (needs_by test plan)

abbrev pub OwnOrderIsOne : Type 0
OwnOrderIsOne = (test : Files → Files → Bool) (plan : List Files) → IsOrder (needs_by test plan) (own_order (needs_by test plan))
