use Rattle.std.proofs.Common.{◌≡◌, ◌++◌, ◌∷◌, [], ◌∙◌, List, ℕ, OnOk, codes, string_bytes, subst, ap, sym, append_assoc}
use Rattle.texts.proofs.PushedLemmas.{pushed, pushed-parts}
use Rattle.plan_texts.specs.Description.{description}
use Rattle.plan_texts.specs.Graph.{escaped, edge, edge_line, description_line, stamp_text}
use Rattle.plan_texts.proofs.ninja.push_edge.Goals as goal

pub returns : goal.returns
returns c =
    let held = c.listed.inside in
    let line = c.as_str.result.now in
    let shown = description_line (description held.command.now) in
    let before = string_bytes c.args.text.now in
    let t4 = string_bytes c.push_str-3.new.self in
    let t5 = string_bytes c.push_str-4.new.self in
    let t6 = string_bytes c.push_value.new.text in
    let t7 = string_bytes c.push_str-5.new.self in
    let after = string_bytes c.push_description.new.text in
    let text : List ℕ → List ℕ = λ line. codes "build " ++ (stamp_text held.group held.place ++ (codes ": run" ++ (c.args.needs.now ++ (edge_line line ++ shown)))) in
    let whole : t7 ++ shown ≡ before ++ text line =
    pushed t6 (10 ∷ []) t7 shown c.in_ok-push_str-5.ensures.bytes
    ∙ pushed t5 (escaped line) t6 (10 ∷ shown) c.in_ok-push_value.ensures
    ∙ pushed t4 (codes "\n  line = ") t5 (escaped line ++ 10 ∷ shown) c.in_ok-push_str-4.ensures.bytes
    ∙ ap (λ t. t4 ++ (codes "\n  line = " ++ t)) (sym (append_assoc (escaped line) (10 ∷ []) shown))
    ∙ pushed-parts _ _ _ _ _ (codes "build ") (stamp_text held.group held.place) (codes ": run") c.args.needs.now (edge_line line ++ shown)
    c.in_ok-push_str.ensures.bytes c.in_ok-push_stamp.ensures c.in_ok-push_str-2.ensures.bytes c.in_ok-push_str-3.ensures.bytes in
    subst (λ l. OnOk c.push_description.result (after ≡ before ++ edge c.args.tmp.now c.args.needs.now l)) c.listed.view_is
    (subst (λ line. OnOk c.push_description.result (after ≡ before ++ text line)) (c.as_str.ensures.value ∙ c.in_ok-line.ensures)
    (subst (λ t. OnOk c.push_description.result (after ≡ t)) whole c.push_description.ensures))
