-- What a run says before its plan and of one group's account, command by command.
use Rattle.std.proofs.Common.{◌≡◌, ℕ, ◌+◌, List, [], ◌∷◌, ◌++◌, Bool, true, false, not, ◌&&◌, ltb, refl, ap, sym, ◌∙◌, map, subst, append_assoc, MatchBool, Result, Err, ℤ, pos, ◌↔◌, arith, fold, IsTrue, IsErr, IsErrAnd, MatchResult, ne_eqb}
use Rattle.std.proofs.lemmas.List.{append-nil, map-append}
use Rattle.std.proofs.lemmas.List.Sums.{fold-append}
use Rattle.texts.specs.declared.fault.Fault.{Fault}
use Rattle.compilers.specs.declared.plans.plan.NvccGeneratedSubcommand.{NvccGeneratedSubcommand}
use Rattle.texts.specs.declared.status.Output.{Output}
use Rattle.texts.specs.Endings.{is_success}
use Rattle.texts.specs.Fault.{UnlessMemory}
use Rattle.compilers.specs.declared.plans.plan.Plan.{Plan}
use Rattle.cuda_plans.specs.Outcome.{aggregated}
use Rattle.cuda_plans.specs.Schedule.{AccountEntry, step_at, output_of_entry, fails, step_of, ExecutesAs, Gains, OfGroup}

abbrev no_entries : List AccountEntry
no_entries = []

-- an entry put behind a list is one put before what comes
push-next : {A : Type 0} (xs : List A) (x : A) (ys : List A) → (xs ++ x ∷ []) ++ ys ≡ xs ++ x ∷ ys
push-next xs x ys = append_assoc xs (x ∷ []) ys

-- What a command's run says.

-- one entry is an account of a group's command that may stop anywhere
pub one-entry : (e : AccountEntry) (group index : ℕ) (c : NvccGeneratedSubcommand) (cs : List NvccGeneratedSubcommand) → step_of e ≡ step_at group index c → OfGroup false group index (e ∷ []) (c ∷ cs)
one-entry e group index c cs at = grind arith

-- A group, so far.

-- what the commands so far have gained: whatever account the rest has, both make the account of all
pub record GroupSoFar (before after : List AccountEntry) (group index : ℕ) (rest commands : List NvccGeneratedSubcommand) (output joined : Output) : Type 0 where
  pub account : List AccountEntry
  pub gained : after ≡ before ++ account
  pub whole : (to_end : Bool) (more : List AccountEntry) → OfGroup to_end group index more rest → OfGroup to_end group 0 (account ++ more) commands
  pub outputs : joined ≡ fold aggregated output (map output_of_entry account)

-- the joined output with one more
joined-next : (output joined more : Output) (account : List AccountEntry) (e : AccountEntry) → joined ≡ fold aggregated output (map output_of_entry account) → more ≡ output_of_entry e → aggregated joined more ≡ fold aggregated output (map output_of_entry (account ++ e ∷ []))
joined-next output joined more account e was is = grind (arith, map-append, fold-append)

gained-next : (before middle after account : List AccountEntry) (e : AccountEntry) → middle ≡ before ++ account → after ≡ middle ++ e ∷ [] → after ≡ before ++ (account ++ e ∷ [])
gained-next before middle after account e was is = is ∙ ap (λ l. l ++ e ∷ []) was ∙ append_assoc before account (e ∷ [])

-- the commands that are left, said otherwise
pub group-left : {before after : List AccountEntry} {group index : ℕ} {rest others commands : List NvccGeneratedSubcommand} {output joined : Output}
    → rest ≡ others → GroupSoFar before after group index rest commands output joined → GroupSoFar before after group index others commands output joined
group-left {before} {after} {group} {index} {rest} {others} {commands} {output} {joined} same far = subst (λ l. GroupSoFar before after group index l commands output joined) same far

-- a command that succeeded
pub group-goes_on : (before middle after : List AccountEntry) (group index : ℕ) (c : NvccGeneratedSubcommand) (rest commands : List NvccGeneratedSubcommand) (output joined more all : Output)
    → GroupSoFar before middle group index (c ∷ rest) commands output joined → (e : AccountEntry) → after ≡ middle ++ e ∷ [] → step_of e ≡ step_at group index c → more ≡ output_of_entry e → fails e ≡ false
    → all ≡ aggregated joined more → GroupSoFar before after group (index + 1) rest commands output all
group-goes_on before middle after group index c rest commands output joined more all s e gained at is succeeds put = record {
  account = s.account ++ e ∷ [];
  gained = gained-next before middle after s.account e s.gained gained;
  whole = λ to_end others h. subst (λ l. OfGroup to_end group 0 l commands) (sym (push-next s.account e others))
      (s.whole to_end (e ∷ others) (at, subst (λ failed. MatchBool failed (others ≡ []) (OfGroup to_end group (index + 1) others rest)) (sym succeeds) h));
  outputs = put ∙ joined-next output joined more s.account e s.outputs is;
}

abbrev pub GroupEnds : Bool → ℕ → List NvccGeneratedSubcommand → Output → Output → List AccountEntry → Type 0
GroupEnds to_end group commands output joined account = OfGroup to_end group 0 account commands × (joined ≡ fold aggregated output (map output_of_entry account))

-- a command that failed
pub group-fails : (before middle after : List AccountEntry) (group index : ℕ) (c : NvccGeneratedSubcommand) (rest commands : List NvccGeneratedSubcommand) (output joined more all : Output)
    → GroupSoFar before middle group index (c ∷ rest) commands output joined → (e : AccountEntry) → after ≡ middle ++ e ∷ [] → step_of e ≡ step_at group index c → more ≡ output_of_entry e → fails e ≡ true
    → all ≡ aggregated joined more → Gains before after (GroupEnds true group commands output all)
group-fails before middle after group index c rest commands output joined more all s e gained at is failed put = (
  s.account ++ e ∷ [],
  gained-next before middle after s.account e s.gained gained,
  (
    s.whole true (e ∷ []) (at, subst (λ f. MatchBool f (no_entries ≡ []) (OfGroup true group (index + 1) [] rest)) (sym failed) refl),
    put ∙ joined-next output joined more s.account e s.outputs is,
  ),
)

-- the group's end
pub group-ends : (before after : List AccountEntry) (group index : ℕ) (commands : List NvccGeneratedSubcommand) (output joined : Output) → GroupSoFar before after group index [] commands output joined → Gains before after (GroupEnds true group commands output joined)
group-ends before after group index commands output joined s =
    (s.account, s.gained, (subst (λ l. OfGroup true group 0 l commands) (append-nil s.account) (s.whole true [] refl), s.outputs))

-- an account of one command that may stop anywhere is one of more commands
more-left : (group index : ℕ) (account : List AccountEntry) (c : NvccGeneratedSubcommand) (rest : List NvccGeneratedSubcommand) → OfGroup false group index account (c ∷ []) → OfGroup false group index account (c ∷ rest)
more-left group index [] c rest h = tt
more-left group index (e ∷ []) c rest h = one-entry e group index c rest h.0
more-left group index (e ∷ f ∷ es) c rest h = grind arith

-- memory was refused
pub group-cut : (before middle after : List AccountEntry) (group index : ℕ) (c : NvccGeneratedSubcommand) (rest commands : List NvccGeneratedSubcommand) (output joined : Output)
    → GroupSoFar before middle group index (c ∷ rest) commands output joined → Gains middle after (λ account. OfGroup false group index account (c ∷ []))
    → Gains before after (λ account. OfGroup false group 0 account commands)
group-cut before middle after group index c rest commands output joined s more = grind (arith, append_assoc, more-left)

-- memory was refused for the joined output
pub group-cut_joining : (before middle after : List AccountEntry) (group index : ℕ) (c : NvccGeneratedSubcommand) (rest commands : List NvccGeneratedSubcommand) (output joined : Output)
    → GroupSoFar before middle group index (c ∷ rest) commands output joined → (e : AccountEntry) → after ≡ middle ++ e ∷ [] → step_of e ≡ step_at group index c
    → Gains before after (λ account. OfGroup false group 0 account commands)
group-cut_joining before middle after group index c rest commands output joined s e gained at =
    group-cut before middle after group index c rest commands output joined s (e ∷ [], gained, one-entry e group index c [] at)

-- What the code tests.

pub success-is : (b : Bool) (z : ℤ) → (IsTrue b ↔ (z ≡ pos 0)) → b ≡ is_success z
success-is b z h = grind (arith, ne_eqb)

pub fails-is : (e : AccountEntry) (more : Output) (b : Bool) → more ≡ output_of_entry e → (IsTrue b ↔ (more.status ≡ pos 0)) → fails e ≡ not b
fails-is e more b is h = ap not (ap (λ o. is_success o.status) (sym is) ∙ sym (success-is b more.status h))

-- what the code tests of a group's chunk and of the last one is what is said of them
pub held-test : (last next : ℕ) (success held : Bool) (status : ℤ) → (IsTrue success ↔ (status ≡ pos 0)) → held ≡ (ltb last next && not success) → (ltb last next && not (is_success status)) ≡ held
held-test last next success held status h test = ap (λ b. ltb last next && not b) (sym (success-is success status h)) ∙ sym test

-- a refusal that was passed on
pub refused : {T E : Type 0} (r : Result T E) (P : T → Type 0) (Q : Type 0) → IsErr r → Q → MatchResult r P (λ _. Q)
refused r P Q h q = grind arith

-- Before the run.

-- a refusal of the planning, before anything ran
refused-planning : (fault : Fault) (planned : Result Plan Fault) (parallel : ℕ) → UnlessMemory {T = Plan} (Err fault) planned → ExecutesAs planned parallel [] (Err fault)
refused-planning fault planned parallel h = grind arith

pub nothing-ran : (before : List AccountEntry) (r : Result Output Fault) (fault : Fault) (planned : Result Plan Fault) (parallel : ℕ) → IsErrAnd r (λ f. f ≡ fault) → UnlessMemory {T = Plan} (Err fault) planned → Gains before before (λ account. ExecutesAs planned parallel account r)
nothing-ran before r fault planned parallel is told = grind (arith, append-nil, refused-planning)
