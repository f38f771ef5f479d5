-- What lets `refl` compute what a dry run says.
use Rattle.std.specs.Str.{chars, is_utf8}
use Rattle.ucd_perl.proofs.Computing.{ucd_perl}

-- under `unfolding dry_runs_compute` texts are decoded and characters have their classes
unfoldable pub dry_runs_compute : Unit {0}
unfolding chars is_utf8 ucd_perl lib.Utf8.encode
dry_runs_compute = tt
