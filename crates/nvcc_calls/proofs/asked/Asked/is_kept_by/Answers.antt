use Rattle.std.proofs.Common.{◌≡◌, ◌&&◌, ◌∙◌, ap, sym, map, subst, Bool, List, ℕ, IfOk}
use Rattle.texts.specs.Variables.{pair_of}
use Rattle.compilers.specs.Table.{Entry}
use Rattle.nvcc_calls.specs.declared.options.Purpose.{Purpose}
use Rattle.nvcc_calls.specs.Keeping.{same_options, kept_options}
use Rattle.nvcc_calls.specs.Options.{nvcc_entries}
use Rattle.nvcc_calls.proofs.KeepingLemmas.{not-begun}
use Rattle.nvcc_calls.proofs.asked.Asked.is_kept_by.Goals as goal

pub returns-then-not-begins_as : goal.returns-then-not-begins_as
returns-then-not-begins_as c = not-begun c.args.self.now c.args.other.now (sym c.begins_as.ensures ∙ c.if-not-begins_as.true)

pub returns : goal.returns
returns c =
    let Answers : Bool → Type 0 = λ expected. IfOk c.keeps_table.result (λ b. b ≡ expected) in
    let others = map pair_of c.as_slice-others.result.now in
    let of_table = subst (λ (es : List (Entry Purpose)). Answers (same_options (map pair_of c.as_slice-options.result.now) others es)) c.table-known.ensures c.keeps_table.ensures in
    let own = subst (λ (o : List (List ℕ × List ℕ)). Answers (same_options o others nvcc_entries)) c.as_slice-options.ensures of_table in
    let both = subst (λ (o : List (List ℕ × List ℕ)). Answers (same_options c.args.self.now.options o nvcc_entries)) c.as_slice-others.ensures own in
    let begun = sym c.begins_as.ensures ∙ c.if-not-begins_as.false in
    subst Answers (sym (ap (λ begins. begins && same_options c.args.self.now.options c.args.other.now.options nvcc_entries) begun) ∙ kept_options c.args.self.now c.args.other.now) both
