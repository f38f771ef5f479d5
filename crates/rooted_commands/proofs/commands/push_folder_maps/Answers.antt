use Rattle.std.proofs.Common.{[], ◌++◌, ap, sym, codes, ◌∙◌}
use Rattle.rooted_commands.specs.Commands.{file_map, folder_maps}
use Rattle.rooted_commands.proofs.MapLemmas.{one-by-one}
use Rattle.rooted_commands.proofs.commands.push_folder_maps.Goals as goal

pub returns-in_ok-push-2 : goal.returns-in_ok-push-2
returns-in_ok-push-2 c =
    let below = c.in_ok-file_map.ensures ∙ ap (λ t. file_map c.args.folder.now t (codes "/")) c.as_str.ensures in
    let top = c.in_ok-file_map-2.ensures ∙ ap (λ t. file_map c.args.folder.now t []) c.as_str-then-at_top.ensures in
    one-by-one c.args.words.now c.push.new.self c.push-then-at_top.new.self _ _ _ _ c.in_ok-push.ensures.ok c.in_ok-push-2.ensures.ok below top
    ∙ ap (λ b. c.args.words.now ++ folder_maps c.args.root.now b c.args.folder.now) (sym c.if-at_top.true)
