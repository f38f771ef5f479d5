use Rattle.std.proofs.Common.{◌≡◌, ap, sym, ◌∙◌, map, take, drop, arith, bytes_eq}
use Rattle.std.specs.List.{list_any}
use Rattle.texts.specs.Variables.{pair_of}
use Rattle.canonical_names.specs.Counted.{old_names}
use Rattle.canonical_names.proofs.WindowLemmas.{found-named, no-part}
use Rattle.canonical_names.proofs.references.is_name_at.Goals as goal

pub returns-in-None : goal.returns-in-None
returns-in-None c = sym (no-part c.args.text.now c.utf8.text c.args.start c.args.length c.requires.some c.requires.within (λ a b. c.in-None.ensures.cases (omega arith) a b) c.args.names.now.entries)

pub returns-in-Some : goal.returns-in-Some
returns-in-Some c =
    let k = c.args.length in
    let is : c.in-Some.part.now ≡ take k (drop c.args.start c.args.text.now) = c.in-Some.ensures.cases.0 ∙ ap (λ n. take n (drop c.args.start c.args.text.now)) (omega arith) in
    c.contains_key.ensures ∙ found-named c.args.names.now.entries c.in-Some.part.now ∙ ap (λ part. list_any (bytes_eq part) (old_names (map pair_of c.args.names.now.entries))) is
