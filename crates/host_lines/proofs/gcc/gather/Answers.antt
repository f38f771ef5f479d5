use Rattle.std.proofs.Common.{Option, Result, ap, sym, subst, ◌∙◌, option_map, option_copied}
use Rattle.host_lines.specs.declared.gcc.options.ArgData.{ArgData}
use Rattle.compilers.specs.declared.items.Argument.{Argument}
use Rattle.compilers.specs.declared.items.ArgParseError.{ArgParseError}
use Rattle.compilers.specs.Table.{Entry, entry_of}
use Rattle.compilers.specs.Items.{Completes, said_of, item_of, item_read}
use Rattle.host_lines.specs.GccSteps.{asked_by}
use Rattle.host_lines.proofs.GccLemmas.{gathering_after, after_item, after_refusal, after_dashes}
use Rattle.host_lines.proofs.gcc.gather.Goals as goal

pub returns-then-is_dashes : goal.returns-then-is_dashes
returns-then-is_dashes g c =
    let chosen = g.S.SearchableArgInfo.chosen c.args.arg_info.now in
    let asked = subst (λ (r : Result (Argument ArgData) ArgParseError). Completes (said_of c.in-Some.word.now (option_map entry_of (option_copied c.search-row.result))) c.next_word.new.self (item_read r) c.read_item.new.line) c.in-Ok.is c.in_ok-item.ensures.item in
    let read = subst (λ (e : Option (Entry ArgData)). Completes (said_of c.in-Some.word.now e) c.next_word.new.self (item_of c.in-Ok.item) c.read_item.new.line) c.search-row.ensures asked in
    rw c.in_ok-take_inputs.ensures (c.loop-word.invariant
    ∙ ap (gathering_after chosen c.args.cwd.now (asked_by c.loop-word.gathered)) c.in-Some.ensures
    ∙ after_dashes chosen c.args.cwd.now (asked_by c.loop-word.gathered) c.in-Some.word.now c.next_word.new.self (item_of c.in-Ok.item) c.read_item.new.line read (sym c.is_dashes.ensures ∙ c.if-is_dashes.true))

pub returns-in-Some-refusal : goal.returns-in-Some-refusal
returns-in-Some-refusal g c =
    let chosen = g.S.SearchableArgInfo.chosen c.args.arg_info.now in
    let asked = subst (λ (r : Result (Argument ArgData) ArgParseError). Completes (said_of c.in-Some.word.now (option_map entry_of (option_copied c.search-row.result))) c.next_word.new.self (item_read r) c.read_item.new.line) c.in-Ok.is c.in_ok-item.ensures.item in
    let read = subst (λ (e : Option (Entry ArgData)). Completes (said_of c.in-Some.word.now e) c.next_word.new.self (item_of c.in-Ok.item) c.read_item.new.line) c.search-row.ensures asked in
    c.loop-word.invariant ∙ ap (gathering_after chosen c.args.cwd.now (asked_by c.loop-word.gathered)) c.in-Some.ensures
    ∙ after_refusal chosen c.args.cwd.now (asked_by c.loop-word.gathered) c.in-Some.word.now c.next_word.new.self (item_of c.in-Ok.item) c.read_item.new.line read c.in-Some-refusal.text.now (sym c.is_dashes.ensures ∙ c.if-is_dashes.false) (sym c.in-Some-refusal.ensures)

pub loop-word-preserved : goal.loop-word-preserved
loop-word-preserved g c =
    let chosen = g.S.SearchableArgInfo.chosen c.args.arg_info.now in
    let asked = subst (λ (r : Result (Argument ArgData) ArgParseError). Completes (said_of c.in-Some.word.now (option_map entry_of (option_copied c.search-row.result))) c.next_word.new.self (item_read r) c.read_item.new.line) c.in-Ok.is c.in_ok-item.ensures.item in
    let read = subst (λ (e : Option (Entry ArgData)). Completes (said_of c.in-Some.word.now e) c.next_word.new.self (item_of c.in-Ok.item) c.read_item.new.line) c.search-row.ensures asked in
    c.loop-word.invariant ∙ ap (gathering_after chosen c.args.cwd.now (asked_by c.loop-word.gathered)) c.in-Some.ensures
    ∙ after_item chosen c.args.cwd.now (asked_by c.loop-word.gathered) c.in-Some.word.now c.next_word.new.self (item_of c.in-Ok.item) c.read_item.new.line read (sym c.is_dashes.ensures ∙ c.if-is_dashes.false) (sym c.in-None.ensures)
    ∙ ap (λ h. gathering_after chosen c.args.cwd.now h c.read_item.new.line) (sym c.in_ok-take-in-None.ensures)
