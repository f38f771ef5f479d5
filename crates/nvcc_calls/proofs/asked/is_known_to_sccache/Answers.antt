use Rattle.std.proofs.Common.{◌≡◌, ◌∙◌, ap, refl, map, is_some, Option, Some, None, option_map, option_copied, Bor}
use Rattle.compilers.specs.declared.table.ArgInfo.{ArgInfo}
use Rattle.compilers.specs.Table.{entry_of, longest_of_two}
use Rattle.host_lines.specs.GccOptions.{gcc_entries}
use Rattle.nvcc_calls.specs.Asked.{known_entries}
use Rattle.nvcc_calls.proofs.asked.is_known_to_sccache.Goals as goal

-- an entry is there if its row is
some-entry : {T : Type 0} (row : Option (Bor (ArgInfo T))) → is_some row ≡ is_some (option_map entry_of (option_copied row))
some-entry None = refl
some-entry (Some row) = refl

pub returns : goal.returns
returns c =
    c.is_some.ensures
    ∙ some-entry c.search.result
    ∙ ap is_some c.search.ensures
    ∙ ap (λ es. is_some (longest_of_two es (map entry_of c.table-2.result.rows.now) c.args.word.now)) c.table.ensures.entries
    ∙ ap (λ es. is_some (longest_of_two gcc_entries es c.args.word.now)) c.table-2.ensures.entries
    ∙ known_entries c.args.word.now
