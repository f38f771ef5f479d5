use Rattle.std.proofs.Common.{◌∙◌, ap, sym, subst, arith, length, fold, Option, option_map, option_copied}
use Rattle.compilers.specs.Table.{Entry, entry_of, longest_match}
use Rattle.compilers.specs.Items.{Completes, said_of}
use Rattle.compilers.specs.Views.{item_viewed}
use Rattle.compilers.proofs.ItemLemmas.{items-completed, words-completed}
use Rattle.nvcc_calls.specs.declared.options.Purpose.{Purpose}
use Rattle.nvcc_calls.specs.Asked.{with_item, nvcc_entry, asked_after}
use Rattle.nvcc_calls.proofs.asked.Asked.take_file_words.Goals as goal

pub loop-word-smaller : goal.loop-word-smaller
loop-word-smaller c =
    omega (arith, words-completed (said_of c.in-Some.word.now (option_map entry_of (option_copied c.search-row.result))) c.next_word.new.self (item_viewed c.view_item-read.result) c.view_item-read.new.line c.view_item-read.ensures.item, ap length c.in-Some.ensures)

pub loop-word-preserved : goal.loop-word-preserved
loop-word-preserved c =
    let found = c.search-row.ensures ∙ ap (λ es. longest_match es c.in-Some.word.now) c.table-options.ensures in
    let read = subst (λ (e : Option (Entry Purpose)). Completes (said_of c.in-Some.word.now e) c.next_word.new.self (item_viewed c.view_item-read.result) c.view_item-read.new.line) found c.view_item-read.ensures.item in
    c.loop-word.invariant
    ∙ ap (asked_after c.loop-word.self) c.in-Some.ensures
    ∙ ap (fold with_item c.loop-word.self) (items-completed nvcc_entry c.in-Some.word.now c.next_word.new.self (item_viewed c.view_item-read.result) c.view_item-read.new.line read)
    ∙ ap (λ a. asked_after a c.view_item-read.new.line) (sym c.in_ok-take_read.ensures)
