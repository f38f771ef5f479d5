use Rattle.std.proofs.Common.{◌≡◌, List, [], ◌++◌, map, flat_map, ap, sym, ◌∙◌}
use Rattle.std.proofs.lemmas.Grind.{flat_map-append}
use Rattle.command_keys.specs.Keys.{shown_variable}
use Rattle.command_keys.specs.ToolVariables.{variable_of, read_by_loader, read_by_code}
use Rattle.command_keys.proofs.environment.tool_variables.Goals as goal

all_set : {X Y : Type 0} (set : X → List Y) (loader code l k : List X) (none some all : List Y) → l ≡ loader → k ≡ code → none ≡ [] → some ≡ none ++ flat_map set l → all ≡ some ++ flat_map set k → all ≡ flat_map set (loader ++ code)
all_set set loader code l k none some all p q e f g =
    g ∙ (λ i. (f ∙ (λ j. e j ++ flat_map set (p j))) i ++ flat_map set (q i)) ∙ sym (flat_map-append set loader code)

pub returns : goal.returns
returns c =
    all_set (variable_of (map shown_variable c.args.environment.now)) read_by_loader (read_by_code c.args.tool) _ _ _ _ _
    c.names_of_loader.ensures c.names_of.ensures (ap (map shown_variable) c.new-chosen.ensures.items) c.in_ok-push_set.ensures c.in_ok-push_set-2.ensures
