use Rattle.std.proofs.Common.{◌≡◌, ℕ, suc, zero, ◌<◌, List, [], ◌∷◌, ◌++◌, map, length, ap, ◌∙◌, arith, slice_index_or, slice_set, vec_items}
use Rattle.std.specs.Global.{Vec}
use Rattle.command_groups.specs.Groups.{put_at}
use Rattle.command_groups.proofs.groups.push_at.Goals as goal

-- one vector, which had the elements of `old`, is set to v, which has one more
put_seen : {X : Type 0} (vs : List (Vec X)) (place : ℕ) (v old d : Vec X) (x : X) → place < length vs → old ≡ slice_index_or vs place d → v.items ≡ old.items ++ x ∷ [] → map vec_items (slice_set vs place v) ≡ put_at place x (map vec_items vs)
put_seen [] place v old d x h r e = absurd (omega (arith, h))
put_seen {X = X} (w ∷ ws) zero v old d x h r e = ap (λ xs. xs ∷ map vec_items ws) (e ∙ ap (λ (u : Vec X). u.items ++ x ∷ []) r)
put_seen (w ∷ ws) (suc place) v old d x h r e = ap (λ gs. w.items ∷ gs) (put_seen ws place v old d x (omega (arith, h)) r e)

pub returns-clause-groups : goal.returns-clause-groups
returns-clause-groups g c = put_seen c.args.groups.now.items c.args.place c.push.new.self c.index_mut.result.now c.index_mut.result.now c.args.element c.requires c.index_mut.ensures.value c.in_ok-push.ensures.items
