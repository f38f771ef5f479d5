use Rattle.std.proofs.Common.{◌≡◌, ◌++◌, map, string_bytes, drop}
use Rattle.test_callers.proofs.cache.digests_of.Given as goal

abbrev pub invariant-loop-path : goal.invariant-loop-path
invariant-loop-path g l =
    l.found ++ map (g.D.Digests.digest l.digests) (map string_bytes (drop l.path-index l.paths)) ≡ map (g.D.Digests.digest l.digests) (map string_bytes l.paths)
