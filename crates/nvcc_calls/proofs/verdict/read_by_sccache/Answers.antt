use Rattle.std.proofs.Common.{◌≡◌, List, [], false, map, string_bytes, subst, IfOk}
use Rattle.compilers.specs.declared.compiler.CCompilerKind.TheVariants as kinds
use Rattle.host_lines.specs.declared.gcc.options.ArgData.{ArgData}
use Rattle.compilers.specs.Compiler.{reading_of}
use Rattle.host_lines.specs.Gcc.{profile_reading}
use Rattle.host_lines.specs.GccOptions.{gcc_entries}
use Rattle.compilers.specs.Table.{Entry, entry_of, longest_of_two}
use Rattle.nvcc_calls.proofs.verdict.read_by_sccache.Goals as goal

pub returns : goal.returns
returns c =
    let ReadBy : List (Entry ArgData) → List (Entry ArgData) → Type 0 =
    λ first second. IfOk c.parse_arguments.result (λ r. reading_of r ≡ profile_reading (longest_of_two first second) [] false kinds.Nvcc (map string_bytes c.args.words.now))
    in
    subst (λ es. ReadBy gcc_entries es) c.table-2.ensures.entries
    (subst (λ es. ReadBy es (map entry_of c.table-2.result.rows.now)) c.table.ensures.entries c.parse_arguments.ensures)
