-- A folder's words are put last one by one.
use Rattle.std.proofs.Common.{◌≡◌, ℕ, List, [], ◌∷◌, ◌++◌, ap, ◌∙◌, append_assoc}

pub one-by-one : (ws mid all : List (List ℕ)) (x y m n : List ℕ) → mid ≡ ws ++ x ∷ [] → all ≡ mid ++ y ∷ [] → x ≡ m → y ≡ n → all ≡ ws ++ m ∷ n ∷ []
one-by-one ws mid all x y m n first second xm yn = second ∙ ap (λ t. t ++ y ∷ []) first ∙ append_assoc ws (x ∷ []) (y ∷ []) ∙ (λ i. ws ++ xm i ∷ yn i ∷ [])
