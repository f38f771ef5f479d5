use Rattle.std.proofs.Common.{◌≡◌, [], sym, ◌∙◌, append-nil, rules}
use Rattle.std.proofs.lemmas.Bool.{false≢true}
use Rattle.std.specs.declared.io.ErrorKind.TheVariants.{Interrupted}
use Rattle.std.specs.contracts.io.ErrorKind as kind
use denote.Enum.Bare.{true_same}
use Rattle.device_lines.proofs.input.read_on.Goals as goal

pub returns-in-Err-2 : goal.returns-in-Err-2
returns-in-Err-2 g c =
    let apart : c.kind-in-Err-2.result ≡ Interrupted → ⊥ =
    λ e. false≢true (sym c.if-eq.false ∙ c.eq.ensures ∙ true_same kind.the_type c.kind.result Interrupted (c.kind.ensures ∙ sym c.kind-in-Err-2.ensures ∙ e))
    in
    ([], search rules, sym (append-nil c.args.bytes.now.items), apart)
