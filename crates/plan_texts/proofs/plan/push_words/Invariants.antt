use Rattle.std.proofs.Common.{◌≡◌, ◌++◌, ◌∷◌, [], map, string_bytes, drop, flat_map}
use Rattle.plan_texts.specs.ShownPlan.{show_words}
use Rattle.plan_texts.proofs.plan.push_words.Given as goal

abbrev pub invariant-loop-word : goal.invariant-loop-word
invariant-loop-word l =
    string_bytes l.text ++ (flat_map (λ word. 32 ∷ word) (map string_bytes (drop l.word-index l.words)) ++ 10 ∷ []) ≡ string_bytes l.fn.text ++ show_words l.exe (map string_bytes l.words)
