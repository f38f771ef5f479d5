use Rattle.std.proofs.Common.{◌≡◌, ◌++◌, not, map, drop, filter, bytes_eq, string_bytes}
use Rattle.call_tasks.proofs.heads.head_files.Given as goal

-- the files so far, and those of the rest, are those of all
abbrev pub invariant-loop-path : goal.invariant-loop-path
invariant-loop-path l =
    l.reads ++ filter (λ path. not (bytes_eq path l.late)) (map string_bytes (drop l.path-index l.path-items))
    ≡ filter (λ path. not (bytes_eq path l.late)) (map string_bytes l.path-items)
