use Rattle.std.proofs.Common.{◌≡◌, ap, nat_eq, string_bytes, rules}
use Rattle.std.specs.Cmp.Lexicographic.{pointwise}
use Rattle.std.proofs.lemmas.Bool.Decides.{Decides-and, Decides-like}
use Rattle.std.proofs.lemmas.Slice.Eq.{bytes_eq-Decides}
use Rattle.compilers.specs.declared.items.Argument.TheVariants.{Raw, UnknownFlag, Flag, WithValue}
use Rattle.compilers.specs.Items.{raw, unknown_flag, flag, with_value}
use Rattle.host_lines.proofs.laws.item_equality.Goals as goal

pub returns : goal.returns
returns g c (Raw s) (Raw t) = Decides-like (pointwise nat_eq (string_bytes s) (string_bytes t)) (ap raw) (λ e. cc) (bytes_eq-Decides (string_bytes s) (string_bytes t))
returns g c (UnknownFlag s) (UnknownFlag t) = Decides-like (pointwise nat_eq (string_bytes s) (string_bytes t)) (ap unknown_flag) (λ e. cc) (bytes_eq-Decides (string_bytes s) (string_bytes t))
returns g c (Flag s k) (Flag t l) =
    Decides-like _ (λ (e : (s.now ≡ t.now) × (k ≡ l)). λ i. flag (e.0 i) (e.1 i)) (λ e. (cc, cc))
    (Decides-and (pointwise nat_eq s.now t.now) (g.T.PartialEq.eq k l) (bytes_eq-Decides s.now t.now) (c.requires k l))
returns g c (WithValue s k v d) (WithValue t l w f) =
    Decides-like _ (λ (e : (s.now ≡ t.now) × ((k ≡ l) × ((string_bytes v ≡ string_bytes w) × (d ≡ f)))). λ i. with_value (e.0 i) (e.1.0 i) (e.1.1.0 i) (e.1.1.1 i)) (λ e. (cc, (cc, (cc, cc))))
    (Decides-and (pointwise nat_eq s.now t.now) _ (bytes_eq-Decides s.now t.now)
    (Decides-and (g.T.PartialEq.eq k l) _ (c.requires k l)
    (Decides-and (pointwise nat_eq (string_bytes v) (string_bytes w)) _ (bytes_eq-Decides (string_bytes v) (string_bytes w)) (search rules))))
returns g c _ _ = (λ e. cc, λ e. cc)
