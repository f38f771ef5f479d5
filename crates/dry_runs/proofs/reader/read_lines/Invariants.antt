use Rattle.std.proofs.Common.{◌≡◌, ◌+◌, ◌≤◌, [], length}
use Rattle.std.specs.List.{enumerate_from}
use Rattle.std.specs.Str.Lines.{lines}
use Rattle.dry_runs.specs.DryRunLines.{numbered_lines}
use Rattle.dry_runs.specs.Limit.{first_too_long}
use Rattle.dry_runs.specs.Parsed.{lines_read}
use Rattle.dry_runs.proofs.ParsedLemmas.{said_before, run_from}
use Rattle.dry_runs.proofs.reader.read_lines.Given as goal

abbrev pub invariant-loop-line : goal.invariant-loop-line
invariant-loop-line g l = record {
  whole : said_before l.said (run_from (g.W.Which.answer l.setting.which.now) l.setting.run l.setting.cwd.now l.said.env l.number l.rest) ≡ lines_read (g.W.Which.answer l.setting.which.now) l.setting.run l.dry_run l.setting.cwd.now;
  over : first_too_long (g.W.Which.answer l.setting.which.now) l.setting.run l.setting.cwd.now l.left l.said.env (enumerate_from l.number (lines l.rest)) ≡ first_too_long (g.W.Which.answer l.setting.which.now) l.setting.run l.setting.cwd.now l.limit [] (numbered_lines l.dry_run);
  room : l.number + length l.rest ≤ length l.dry_run;
}

abbrev pub decreases-loop-line : goal.decreases-loop-line
decreases-loop-line g l = length l.rest
