use Rattle.std.proofs.Common.{◌∙◌, ap}
use Rattle.std.specs.List.{prefix_len}
use Rattle.dry_runs.specs.Environment.{is_name_byte}
use Rattle.dry_runs.proofs.PlaceLemmas.{name-boundary}
use Rattle.dry_runs.proofs.places.name_cut.Goals as goal

pub split_at-requires : goal.split_at-requires
split_at-requires c = name-boundary c.args.text.now c.name_len.result c.utf8.text (c.name_len.ensures ∙ ap (prefix_len is_name_byte) c.as_bytes.ensures.value)
