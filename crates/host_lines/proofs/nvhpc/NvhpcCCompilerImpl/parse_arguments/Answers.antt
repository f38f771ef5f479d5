use Rattle.std.proofs.Common.{◌≡◌, List, map, string_bytes, subst, IfOk}
use Rattle.compilers.specs.declared.compiler.CCompilerKind.TheVariants.{Nvhpc}
use Rattle.host_lines.specs.declared.gcc.options.ArgData.{ArgData}
use Rattle.compilers.specs.Compiler.{reading_of}
use Rattle.host_lines.specs.Gcc.{profile_reading}
use Rattle.host_lines.specs.GccOptions.{gcc_entries}
use Rattle.compilers.specs.Table.{Entry, entry_of, longest_match, longer_choice}
use Rattle.host_lines.proofs.nvhpc.NvhpcCCompilerImpl.parse_arguments.Goals as goal

pub returns : goal.returns
returns c =
    let words = map string_bytes c.args.arguments.now in
    let first = subst (λ (es : List (Entry ArgData)). IfOk c.parse_arguments.result (λ r. reading_of r ≡ profile_reading (λ word. longer_choice (longest_match es word) (longest_match (map entry_of c.table-2.result.rows.now) word)) c.args.cwd.now c.args.self.now.nvcplusplus Nvhpc words)) c.table.ensures.entries c.parse_arguments.ensures in
    subst (λ (es : List (Entry ArgData)). IfOk c.parse_arguments.result (λ r. reading_of r ≡ profile_reading (λ word. longer_choice (longest_match gcc_entries word) (longest_match es word)) c.args.cwd.now c.args.self.now.nvcplusplus Nvhpc words)) c.table-2.ensures.entries first
