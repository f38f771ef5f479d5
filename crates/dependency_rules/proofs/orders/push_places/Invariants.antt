use Rattle.std.proofs.Common.{◌≡◌, ◌++◌, drop}
use Rattle.dependency_rules.specs.Orders as spec
use Rattle.dependency_rules.proofs.orders.push_places.Given as goal

abbrev pub invariant-loop-place : goal.invariant-loop-place
invariant-loop-place l = l.places.items ++ spec.places_from l.devices l.place (drop l.place l.commands) ≡ l.initial.places.items ++ spec.places_from l.devices 0 l.commands
