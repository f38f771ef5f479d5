use Rattle.std.proofs.Common.{◌≡◌, [], ◌∙◌, Some, ap, subst, map, string_bytes, slice_index_or, fold, remove, IfOk, option_map}
use Rattle.compilers.specs.Compiler.{reading_of}
use Rattle.compilers.specs.Items.{items}
use Rattle.device_lines.proofs.ReadingLemmas.{reading-gathered}
use Rattle.device_lines.specs.Gathered.{nothing_gathered, with_item, reading_of_gathered}
use Rattle.device_lines.specs.Reading.{reading_around, reading_as_answer}
use Rattle.device_lines.proofs.reader.parse_arguments.Goals as goal

pub returns : goal.returns
returns g c =
    let cwd = c.args.cwd.now in
    let chosen = g.S.SearchableArgInfo.chosen c.args.arg_info in
    let words = map string_bytes c.args.arguments.now in
    let place = c.in-Some.place in
    let input = slice_index_or words place [] in
    let start = ap (λ h. fold (with_item cwd) h (items chosen c.without-line.result)) c.in_ok-gathered.ensures in
    let line = ap (λ ws. fold (with_item cwd) nothing_gathered (items chosen ws)) c.without-line.ensures in
    let all = c.in_ok-take_line.ensures ∙ (start ∙ line) in
    let read = ap (λ w. reading_of_gathered cwd c.args.language w c.take_line.new.self) c.word_at.ensures ∙ (ap (reading_of_gathered cwd c.args.language input) all ∙ reading-gathered cwd c.args.language input (items chosen (remove words place))) in
    let placed = ap (option_map (reading_around chosen cwd c.args.language words)) c.in-Some.ensures.place in
    subst (λ p. IfOk c.into_answer.result (λ r. reading_of r ≡ reading_as_answer p)) (ap Some read ∙ placed) c.into_answer.ensures
