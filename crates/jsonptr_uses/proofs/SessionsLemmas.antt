-- One more call of a session, read from its text.
use Rattle.std.proofs.Common.{◌≡◌, Bool, true, if◌then◌else◌, List, [], ◌∷◌, ◌++◌, map, ap, sym, ◌∙◌}
use Rattle.std.proofs.lemmas.List.{map-append}

-- what a push leaves that has room
pub pushed : {X : Type 0} (now old : List X) (x : X) (done : Bool) → now ≡ (if done then old ++ (x ∷ []) else old) → true ≡ done → now ≡ old ++ (x ∷ [])
pushed now old x done is so = is ∙ ap (λ (b : Bool). if b then old ++ (x ∷ []) else old) (sym so)

-- equal images, with one more
pub images_push : {X Y Z : Type 0} (f : X → Z) (g : Y → Z) (xs : List X) (ys : List Y) (x : X) (y : Y) → map f xs ≡ map g ys → f x ≡ g y → map f (xs ++ x ∷ []) ≡ map g (ys ++ y ∷ [])
images_push f g xs ys x y same one =
    map-append f xs (x ∷ []) ∙ ap (λ l. l ++ f x ∷ []) same ∙ ap (λ z. map g ys ++ z ∷ []) one ∙ sym (map-append g ys (y ∷ []))
