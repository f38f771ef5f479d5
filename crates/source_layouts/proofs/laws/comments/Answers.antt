use Rattle.source_layouts.proofs.PlaceLemmas.{texts_leave_nothing}
use Rattle.source_layouts.proofs.RemarkLemmas.{comments_dont_count, comments_are_blanks, empty_lines_dont_count}
use Rattle.source_layouts.proofs.laws.comments.Goals as goal

pub returns-clause-places : goal.returns-clause-places
returns-clause-places c = texts_leave_nothing

pub returns-clause-remarks : goal.returns-clause-remarks
returns-clause-remarks c = comments_dont_count

pub returns-clause-blocks : goal.returns-clause-blocks
returns-clause-blocks c = comments_are_blanks

pub returns-clause-lines : goal.returns-clause-lines
returns-clause-lines c = empty_lines_dont_count
