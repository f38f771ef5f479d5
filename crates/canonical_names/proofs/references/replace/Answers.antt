use Rattle.std.proofs.Common.{◌≡◌, ◌∙◌, ap, ℕ, List, String, string_bytes, refl, Global, Bor, arith}
use Rattle.std.specs.Str.Pattern.{FindsText}
use Rattle.std.specs.Str.Replace.{ReplacesMatches}
use Rattle.std.proofs.lemmas.Grind.{common_steps}
use Rattle.std.proofs.lemmas.Result.{IfOk-weaker}
use Rattle.compilers.specs.Replacing.{replaced}
use Rattle.canonical_names.proofs.ReplaceLemmas.{all-replaced}
use Rattle.canonical_names.proofs.RewriteLemmas.{replaced-none}
use Rattle.canonical_names.proofs.references.replace.Goals as goal

pub returns-then-not-holds : goal.returns-then-not-holds
returns-then-not-holds c = grind (arith, common_steps, replaced-none)

pub returns : goal.returns
returns c =
    let old = c.args.old.now in
    let new = c.args.new.now in
    let text = c.as_str-text.result.now in
    IfOk-weaker c.replace.result
    (λ (t : String Global). (n : ℕ) × ReplacesMatches (λ (q : Bor (List ℕ)). FindsText q.now) (λ (q r : Bor (List ℕ)). r.now ≡ q.now) new n c.args.old text (string_bytes t))
    (λ (t : String Global). string_bytes t ≡ replaced old new (string_bytes c.args.whole))
    (λ t h. all-replaced old new c.requires h.0 c.args.old refl text (string_bytes t) h.1 ∙ ap (replaced old new) c.as_str-text.ensures.value)
    c.replace.ensures.ok
