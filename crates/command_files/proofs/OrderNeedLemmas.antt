-- Two commands each that may not change places.
use Rattle.std.proofs.Common.{◌≡◌, ℕ, zero, suc, ◌<◌, List, [], ◌∷◌, Bool, true, false, cond, ◌||◌, Some, None, length, refl, arith, bytes_eq}
use Rattle.std.proofs.lemmas.Bool.{false≢true, or_parts}
use Rattle.std.proofs.lemmas.List.Sorted.{IsPermutation-append_comm}
use Rattle.command_files.specs.Files.{Files, but_reads_written, but_writes_read, but_writes_written}
use Rattle.command_files.specs.Order.{needs_by, IsOrder, Contents, Effect, files_at, StaysWithin, OrdersAgree}
use Rattle.command_files.proofs.OrderLemmas.{in_either, in_first}
use Rattle.command_files.proofs.NeedLemmas.{needs_hold}

-- two files
abbrev one_file : List ℕ
one_file = 97 ∷ []

abbrev other_file : List ℕ
other_file = 98 ∷ []

-- a command that writes a file: the same each time, or what another file holds
abbrev puts : List ℕ → List ℕ → Effect
puts target value contents file = cond (bytes_eq file target) (Some value) (contents file)

abbrev copies : List ℕ → List ℕ → Effect
copies target source contents file = cond (bytes_eq file target) (contents source) (contents file)

abbrev putting : List ℕ → Files
putting target = record { reads = []; writes = target ∷ [] }

abbrev copying : List ℕ → List ℕ → Files
copying target source = record { reads = source ∷ []; writes = target ∷ [] }

other_than : (file target : List ℕ) → (bytes_eq file target || false) ≡ false → bytes_eq file target ≡ false
other_than file target e = (or_parts (bytes_eq file target) false e).0

that_file : (file target : List ℕ) → (bytes_eq file target || false) ≡ true → bytes_eq file target ≡ true
that_file file target e = in_either (bytes_eq file target) false (λ k. k) (λ k. absurd (false≢true k)) e

puts_within : (plan : List Files) (needs : List (List ℕ)) (n : ℕ) (target value : List ℕ) → files_at plan n ≡ putting target → StaysWithin plan needs n (puts target value)
puts_within plan needs n target value at = grind (arith, other_than, that_file)

copies_within : (plan : List Files) (needs : List (List ℕ)) (n : ℕ) (target source : List ℕ) → bytes_eq source source ≡ true → files_at plan n ≡ copying target source → StaysWithin plan needs n (copies target source)
copies_within plan needs n target source itself at = grind (arith, other_than, that_file, in_first)

-- two commands, and what two orders of them leave
abbrev two : Effect → Effect → ℕ → Effect
two a b zero = a
two a b (suc n) = b

abbrev plan_of : Files → Files → List Files
plan_of f g = f ∷ g ∷ []

two_stay : (needs : List (List ℕ)) (f g : Files) (a b : Effect) → StaysWithin (plan_of f g) needs 0 a → StaysWithin (plan_of f g) needs 1 b → (n : ℕ) → n < length (plan_of f g) → StaysWithin (plan_of f g) needs n (two a b n)
two_stay needs f g a b s t n h = grind arith

abbrev nothing : Contents
nothing file = None

-- orders by a test at which neither needs the other leave the same
exchanged : (test : Files → Files → Bool) (f g : Files) (a b : Effect) → OrdersAgree test → IsOrder (needs_by test (plan_of f g)) (1 ∷ 0 ∷ [])
    → StaysWithin (plan_of f g) (needs_by test (plan_of f g)) 0 a → StaysWithin (plan_of f g) (needs_by test (plan_of f g)) 1 b
    → (file : List ℕ) → a (b nothing) file ≡ b (a nothing) file
exchanged test f g a b h order s t file =
    (h (plan_of f g) (needs_by test (plan_of f g)) (1 ∷ 0 ∷ []) (two a b) nothing (needs_hold test (plan_of f g)) order
    (λ n k loose. two_stay (needs_by test (plan_of f g)) f g a b s t n k)).leaves file

abbrev one : List ℕ
one = []

abbrev another : List ℕ
another = 97 ∷ []

pub reads_must_follow : OrdersAgree but_reads_written → ⊥
reads_must_follow h =
    let same : None ≡ Some one =
    exchanged but_reads_written (putting one_file) (copying other_file one_file) (puts one_file one) (copies other_file one_file) h
    (record { each_once = IsPermutation-append_comm (0 ∷ []) (1 ∷ []); ready = refl })
    (puts_within _ _ 0 one_file one refl) (copies_within _ _ 1 other_file one_file refl refl) other_file in cc

pub writes_must_follow_reads : OrdersAgree but_writes_read → ⊥
writes_must_follow_reads h =
    let same : Some one ≡ None =
    exchanged but_writes_read (copying other_file one_file) (putting one_file) (copies other_file one_file) (puts one_file one) h
    (record { each_once = IsPermutation-append_comm (0 ∷ []) (1 ∷ []); ready = refl })
    (copies_within _ _ 0 other_file one_file refl refl) (puts_within _ _ 1 one_file one refl) other_file in cc

pub writes_must_follow_writes : OrdersAgree but_writes_written → ⊥
writes_must_follow_writes h =
    let same : Some one ≡ Some another =
    exchanged but_writes_written (putting one_file) (putting one_file) (puts one_file one) (puts one_file another) h
    (record { each_once = IsPermutation-append_comm (0 ∷ []) (1 ∷ []); ready = refl })
    (puts_within _ _ 0 one_file one refl) (puts_within _ _ 1 one_file another refl) one_file in cc
