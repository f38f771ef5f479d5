-- A plan is read back from its data.
use Rattle.std.proofs.Common.{◌≡◌, ℕ, suc, zero, ◌+◌, ◌-◌, ◌<◌, ◌^◌, ◌==◌, List, [], ◌∷◌, ◌++◌, map, length, drop, Bool, true, false, refl, sym, ap, ◌∙◌, arith, eq-eqb, codes, add-one, filter, if◌then◌else◌, bytes_eq}
use Rattle.std.specs.List.{AllByRecursion}
use Rattle.compilers.specs.declared.command.Cacheable.{Cacheable}
use Rattle.compilers.specs.declared.command.Cacheable.TheVariants.{Yes, No}
use Rattle.compilers.specs.declared.plans.origins.Origin.{Origin}
use Rattle.compilers.specs.declared.plans.plan.NvccGeneratedSubcommand.{NvccGeneratedSubcommand}
use Rattle.compilers.specs.declared.plans.plan.Dropped.{Dropped}
use Rattle.compilers.specs.declared.plans.plan.Reason.{Reason}
use Rattle.compilers.specs.declared.plans.plan.Reason.TheVariants.{NotCuda, NoCiccGroup, NoPtxasGroup, Superseded}
use Rattle.compilers.specs.Listed.{Listed, listed_group, listed_from}
use Rattle.compilers.specs.Reasons.{reason_name}
use Rattle.serde_json.specs.Data.{unsigned, Data, null, boolean, number, string, array, object, Items, no_items, item, Members, no_members, member}
use Rattle.serde_json.specs.View.{items_of}
use Rattle.plan_json.specs.Json.{variable_data, is_cacheable, from_one, Known, origin_at, command_at, dropped_data, Described, data_of}
use Rattle.command_files.specs.Numbered.{numbered}
use Rattle.plan_json.specs.OneToOne.{IsDescribed}
use Rattle.plan_json.proofs.laws.data_is_one_to_one.Goals as goal

-- ---- what is read of data

abbrev list_in : Items → List Data
list_in no_items = []
list_in (item d ds) = d ∷ list_in ds

abbrev items_in : Data → List Data
items_in (array ds) = list_in ds
items_in _ = []

abbrev value_at : ℕ → Members → Data
value_at n no_members = null
value_at zero (member k d ms) = d
value_at (suc n) (member k d ms) = value_at n ms

abbrev field : ℕ → Data → Data
field n (object ms) = value_at n ms
field n _ = null

abbrev text_in : Data → List ℕ
text_in (string s) = s
text_in _ = []

abbrev count_in : Data → ℕ
count_in (number (unsigned n)) = n
count_in _ = 0

abbrev bool_in : Data → Bool
bool_in (boolean b) = b
bool_in _ = false

abbrev pair_of_items : List Data → List ℕ × List ℕ
pair_of_items (d ∷ e ∷ ds) = (text_in d, text_in e)
pair_of_items _ = ([], [])

abbrev cacheable_of : Bool → Cacheable
cacheable_of true = Yes
cacheable_of false = No

abbrev command_in : Data → NvccGeneratedSubcommand
command_in d = record {
  exe = text_in (field 5 d);
  args = map text_in (items_in (field 0 d));
  cwd = text_in (field 3 d);
  env_vars = map (λ p. pair_of_items (items_in p)) (items_in (field 4 d));
  cacheable = cacheable_of (bool_in (field 1 d));
}

abbrev listed_in : Data → ℕ × NvccGeneratedSubcommand
listed_in d = (count_in (field 6 d), command_in d)

abbrev origin_in : Data → Origin
origin_in d = record { line = count_in (field 8 d) - 1; run = count_in (field 12 d) }

-- ---- commands

list_is : (ds : List Data) → list_in (items_of ds) ≡ ds
list_is [] = refl
list_is (d ∷ ds) = ap (λ t. d ∷ t) (list_is ds)

-- what is read of each item's data is the item
all_are : {X : Type 0} (f : X → Data) (back : Data → X) → ((x : X) → back (f x) ≡ x) → (xs : List X) → map back (list_in (items_of (map f xs))) ≡ xs
all_are f back one [] = refl
all_are f back one (x ∷ xs) = λ i. one x i ∷ all_are f back one xs i

cacheable_is : (c : Cacheable) → cacheable_of (is_cacheable c) ≡ c
cacheable_is c = grind arith

command_is : (known : Known) (id : ℕ) (l : Listed) → command_in (command_at known id l) ≡ l.command
command_is known id l = let c = l.command in λ i. record { exe = c.exe; args = all_are string text_in (λ _. refl) c.args i; cwd = c.cwd; env_vars = all_are variable_data (λ p. pair_of_items (items_in p)) (λ _. refl) c.env_vars i; cacheable = cacheable_is c.cacheable i }

-- ---- groups

abbrev with_group : Listed → ℕ × NvccGeneratedSubcommand
with_group l = (l.group, l.command)

commands_are : (known : Known) (id : ℕ) (commands : List Listed) → map listed_in (numbered (command_at known) id commands) ≡ map with_group commands
commands_are known id [] = refl
commands_are known id (l ∷ commands) = λ i. (l.group, command_is known id l i) ∷ commands_are known (id + 1) commands i

abbrev is_of : ℕ → ℕ × NvccGeneratedSubcommand → Bool
is_of group c = c.0 == group

abbrev groups_in : ℕ → ℕ → List (ℕ × NvccGeneratedSubcommand) → List (List NvccGeneratedSubcommand)
groups_in zero group cs = []
groups_in (suc n) group cs = map (λ c. c.1) (filter (is_of group) cs) ∷ groups_in n (group + 1) (drop (length (filter (is_of group) cs)) cs)

skipped : (group other place : ℕ) (commands : List NvccGeneratedSubcommand) (rest : List Listed) → group < other →
    filter (is_of group) (map with_group (listed_group other place commands ++ rest)) ≡ filter (is_of group) (map with_group rest)
skipped group other place [] rest h = refl
skipped group other place (c ∷ commands) rest h = grind (arith, (skipped group other (place + 1) commands rest h))

none_later : (group other : ℕ) (groups : List (List NvccGeneratedSubcommand)) → group < other → filter (is_of group) (map with_group (listed_from other groups)) ≡ []
none_later group other [] h = refl
none_later group other (commands ∷ groups) h = simp (skipped, (none_later group (other + 1) groups (omega (arith, h))))

first_are : (group place : ℕ) (commands : List NvccGeneratedSubcommand) (groups : List (List NvccGeneratedSubcommand)) →
    filter (is_of group) (map with_group (listed_group group place commands ++ listed_from (group + 1) groups)) ≡ map with_group (listed_group group place commands)
first_are group place [] groups = none_later group (group + 1) groups (omega arith)
first_are group place (c ∷ commands) groups = simp (eq-eqb, (first_are group (place + 1) commands groups))

own_commands : (group place : ℕ) (commands : List NvccGeneratedSubcommand) → map (λ c. c.1) (map with_group (listed_group group place commands)) ≡ commands
own_commands group place [] = refl
own_commands group place (c ∷ commands) = ap (λ t. c ∷ t) (own_commands group (place + 1) commands)

past_first : (group place : ℕ) (commands : List NvccGeneratedSubcommand) (rest : List Listed) →
    drop (length (map with_group (listed_group group place commands))) (map with_group (listed_group group place commands ++ rest)) ≡ map with_group rest
past_first group place [] rest = refl
past_first group place (c ∷ commands) rest = past_first group (place + 1) commands rest

groups_are : (group : ℕ) (groups : List (List NvccGeneratedSubcommand)) → groups_in (length groups) group (map with_group (listed_from group groups)) ≡ groups
groups_are group [] = refl
groups_are group (commands ∷ groups) = grind (arith, first_are, own_commands, past_first, (groups_are (group + 1) groups))

-- ---- origins

abbrev Fits : Origin → Type 0
Fits o = o.line < 2 ^ 64 - 1

line_is : (line : ℕ) → line < 2 ^ 64 - 1 → from_one line - 1 ≡ line
line_is line h = omega (arith, h)

fit_at : (origins : List Origin) (id : ℕ) → AllByRecursion Fits origins → Fits (origin_at origins id)
fit_at [] id all = omega arith
fit_at (o ∷ origins) zero all = all.0
fit_at (o ∷ origins) (suc id) all = fit_at origins id all.1

-- the origins of so many commands from a number on
abbrev origins_from : List Origin → ℕ → ℕ → List Origin
origins_from origins zero id = []
origins_from origins (suc n) id = origin_at origins id ∷ origins_from origins n (suc id)

past_origin : (o : Origin) (origins : List Origin) (n id : ℕ) → origins_from (o ∷ origins) n (suc id) ≡ origins_from origins n id
past_origin o origins zero id = refl
past_origin o origins (suc n) id = ap (λ t. origin_at origins id ∷ t) (past_origin o origins n (suc id))

all_origins : (origins : List Origin) → origins_from origins (length origins) 0 ≡ origins
all_origins [] = refl
all_origins (o ∷ origins) = ap (λ t. o ∷ t) (past_origin o origins (length origins) 0 ∙ all_origins origins)

module _ (known : Known) (all : AllByRecursion Fits known.origins) where
  origin_is : (id : ℕ) (l : Listed) → origin_in (command_at known id l) ≡ origin_at known.origins id
  origin_is id l = λ i. record { line = line_is (origin_at known.origins id).line (fit_at known.origins id all) i; run = (origin_at known.origins id).run }

  origins_are : (id : ℕ) (commands : List Listed) → map origin_in (numbered (command_at known) id commands) ≡ origins_from known.origins (length commands) id
  origins_are id [] = refl
  origins_are id (l ∷ commands) =
      (λ i. origin_is id l i ∷ origins_are (id + 1) commands i) ∙ ap (λ n. origin_at known.origins id ∷ origins_from known.origins (length commands) n) (add-one id)

-- ---- dropped commands

abbrev reason_of : List ℕ → Reason
reason_of name =
    if bytes_eq name (codes "NotCuda") then NotCuda else
    if bytes_eq name (codes "NoCiccGroup") then NoCiccGroup else
    if bytes_eq name (codes "NoPtxasGroup") then NoPtxasGroup else Superseded

reason_is : (reason : Reason) → reason_of (reason_name reason) ≡ reason
reason_is reason = grind arith

abbrev dropped_in : Data → Dropped
dropped_in d = record {
  line = count_in (field 2 d) - 1;
  run = count_in (field 4 d);
  exe = text_in (field 1 d);
  args = map text_in (items_in (field 0 d));
  reason = reason_of (text_in (field 3 d));
}

dropped_are : (dropped : List Dropped) → AllByRecursion (λ c. c.line < 2 ^ 64 - 1) dropped → map dropped_in (list_in (items_of (map dropped_data dropped))) ≡ dropped
dropped_are [] all = refl
dropped_are (d ∷ dropped) all = λ i. record { line = line_is d.line all.0 i; run = d.run; exe = d.exe; args = all_are string text_in (λ _. refl) d.args i; reason = reason_is d.reason i } ∷ dropped_are dropped all.1 i

-- ---- plans

abbrev described_in : Data → Described
described_in d = record {
  cwd = text_in (field 1 d);
  tmp = text_in (field 5 d);
  flag = text_in (field 3 d);
  planned = record {
    plan = record { groups = groups_in (count_in (field 4 d)) 0 (map listed_in (items_in (field 0 d))); dropped = map dropped_in (items_in (field 2 d)) };
    origins = map origin_in (items_in (field 0 d));
  };
}

described_is : (d : Described) → IsDescribed d → described_in (data_of d) ≡ d
described_is d is = grind (arith, list_is, commands_are, groups_are, origins_are, all_origins, dropped_are)

pub returns : goal.returns
returns c = λ one other is are same. sym (described_is one is) ∙ ap described_in same ∙ described_is other are
