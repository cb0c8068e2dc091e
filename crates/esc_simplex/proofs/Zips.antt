-- Lists side by side.
use Rattle.std.proofs.Common.{List, [], ◌∷◌, ◌++◌}
use Rattle.std.specs.List.{All, AllZip}
use Rattle.std.proofs.lemmas.List.Elements.{All-cons, All-nil}

pub zip_push : {X Y : Type 0} (R : X → Y → Type 0) (xs : List X) (ys : List Y) (x : X) (y : Y)
    → AllZip R xs ys → R x y → AllZip R (xs ++ x ∷ []) (ys ++ y ∷ [])
zip_push R [] [] x y zip r = (r, tt)
zip_push R [] (b ∷ bs) x y zip r = absurd zip
zip_push R (a ∷ more) [] x y zip r = absurd zip
zip_push R (a ∷ more) (b ∷ bs) x y zip r = (zip.0, zip_push R more bs x y zip.1 r)

pub zip_weaker : {X Y : Type 0} (R S : X → Y → Type 0) → ((x : X) (y : Y) → R x y → S x y)
    → (xs : List X) (ys : List Y) → AllZip R xs ys → AllZip S xs ys
zip_weaker R S weaker [] [] zip = tt
zip_weaker R S weaker [] (b ∷ bs) zip = zip
zip_weaker R S weaker (a ∷ more) [] zip = zip
zip_weaker R S weaker (a ∷ more) (b ∷ bs) zip = (
  weaker a b zip.0,
  zip_weaker R S weaker more bs zip.1,
)

pub zip_right : {X Y : Type 0} (R : X → Y → Type 0) (P : Y → Type 0)
    → ((x : X) (y : Y) → R x y → P y) → (xs : List X) (ys : List Y) → AllZip R xs ys → All P ys
zip_right R P right [] [] zip = All-nil P
zip_right R P right [] (b ∷ bs) zip = absurd zip
zip_right R P right (a ∷ more) [] zip = absurd zip
zip_right R P right (a ∷ more) (b ∷ bs) zip = All-cons P b bs (right a b zip.0)
    (zip_right R P right more bs zip.1)

pub zip_left : {X Y : Type 0} (R : X → Y → Type 0) (P : X → Type 0)
    → ((x : X) (y : Y) → R x y → P x) → (xs : List X) (ys : List Y) → AllZip R xs ys → All P xs
zip_left R P left [] [] zip = All-nil P
zip_left R P left [] (b ∷ bs) zip = absurd zip
zip_left R P left (a ∷ more) [] zip = absurd zip
zip_left R P left (a ∷ more) (b ∷ bs) zip = All-cons P a more (left a b zip.0)
    (zip_left R P left more bs zip.1)
