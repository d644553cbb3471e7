-- Lists whose items agree in one respect, and what is made of that respect alone.
use Rattle.std.proofs.Common.{◌≡◌, refl, sym, ◌∙◌, ap, ℕ, Bool, cond, List, [], ◌∷◌, ◌++◌, length, map, arith}
use Rattle.std.proofs.lemmas.{List.{length-map, map-append}, List.Folds.{flat_map-map}, List.Sums.{sum-map}}
use Rattle.std.specs.{Prelude.{sum}, List.{count_by, flat_map}}

module _ {X Y : Type 0} (bare : X → Y) where
  -- what is made of each item
  map-same : {Z : Type 0} (f : X → Z) → ((x y : X) → bare x ≡ bare y → f x ≡ f y) → (xs ys : List X) → map bare xs ≡ map bare ys
      → map f xs ≡ map f ys
  map-same f each [] [] same = refl
  map-same f each [] (y ∷ ys) same = cc
  map-same f each (x ∷ xs) [] same = cc
  map-same f each (x ∷ xs) (y ∷ ys) same = grind (arith, map-same f each xs ys cc)

  pub length-same : (xs ys : List X) → map bare xs ≡ map bare ys → length xs ≡ length ys
  length-same xs ys same = sym (length-map xs bare) ∙ ap length same ∙ length-map ys bare

  pub flat_map-same : {Z : Type 0} (text : X → List Z) → ((x y : X) → bare x ≡ bare y → text x ≡ text y) → (xs ys : List X)
      → map bare xs ≡ map bare ys → flat_map text xs ≡ flat_map text ys
  flat_map-same {Z} text each xs ys same =
      sym (flat_map-map (λ (zs : List Z). zs) text xs) ∙ ap (flat_map (λ (zs : List Z). zs)) (map-same text each xs ys same)
      ∙ flat_map-map (λ (zs : List Z). zs) text ys

  pub count-same : (is : X → Bool) → ((x y : X) → bare x ≡ bare y → is x ≡ is y) → (xs ys : List X)
      → map bare xs ≡ map bare ys → count_by is xs ≡ count_by is ys
  count-same is each xs ys same =
      let one = λ (x : X). cond (is x) 1 0 in
      sym (sum-map one xs) ∙ ap sum (map-same one (λ x y e. ap (λ (b : Bool). cond b 1 0) (each x y e)) xs ys same) ∙ sum-map one ys

  -- lists one after another
  pub append-same : (xs ys others more : List X) → map bare xs ≡ map bare ys → map bare others ≡ map bare more
      → map bare (xs ++ others) ≡ map bare (ys ++ more)
  append-same xs ys others more same rest =
      map-append bare xs others ∙ ap (λ all. all ++ map bare others) same ∙ ap (λ all. map bare ys ++ all) rest
      ∙ sym (map-append bare ys more)

  map-all : (groups : List (List X))
      → map bare (flat_map (λ (group : List X). group) groups) ≡ flat_map (λ (group : List Y). group) (map (map bare) groups)
  map-all [] = refl
  map-all (group ∷ groups) =
      map-append bare group (flat_map (λ (group : List X). group) groups) ∙ ap (λ all. map bare group ++ all) (map-all groups)

  -- the same of all groups together
  pub groups-same : (groups others : List (List X)) → map (map bare) groups ≡ map (map bare) others
      → map bare (flat_map (λ (group : List X). group) groups) ≡ map bare (flat_map (λ (group : List X). group) others)
  groups-same groups others same = grind (arith, map-all)

-- the same for each item
pub flat_map-alike : {X : Type 0} (text : X → List ℕ) → ((x y : X) → text x ≡ text y) → (xs ys : List X) → length xs ≡ length ys
    → flat_map text xs ≡ flat_map text ys
flat_map-alike text each [] [] same = refl
flat_map-alike text each [] (y ∷ ys) same = absurd (omega (arith, same))
flat_map-alike text each (x ∷ xs) [] same = absurd (omega (arith, same))
flat_map-alike text each (x ∷ xs) (y ∷ ys) same = grind (arith, flat_map-alike text each xs ys (omega (arith, same)))
