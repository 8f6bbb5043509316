-- Parts that stand under one side of a connective, and behind others.
use Rattle.std.proofs.Common.{◌≡◌, ◌≢◌, ◌∙◌, List, [], ◌∷◌, ◌++◌, map, ap, refl}
use Rattle.cedar_model.specs.Terms.{Term}
use Rattle.cedar_explain.specs.Places.{Side, Place, part_at, Assignment, on_side}
use Rattle.cedar_explain.specs.Explained.{Told, OfEach, Standing, Stand, IsApart, AreApart, HasEach, HasOthers}

-- one side further out
abbrev pub under : Side → Standing → Standing
under s x = record { place = s ∷ x.place; told = x.told }

abbrev pub all_under : Side → List Standing → List Standing
all_under s xs = map (under s) xs

abbrev pub tolds : List Standing → List Told
tolds xs = map (λ s. s.told) xs

pub told_under : (s : Side) (xs : List Standing) → tolds (all_under s xs) ≡ tolds xs
told_under s [] = refl
told_under s (x ∷ xs) = ap (λ (ys : List Told). x.told ∷ ys) (told_under s xs)

pub told_behind : (xs ys : List Standing) → tolds (xs ++ ys) ≡ tolds xs ++ tolds ys
told_behind [] ys = refl
told_behind (x ∷ xs) ys = ap (λ (zs : List Told). x.told ∷ zs) (told_behind xs ys)

pub each_behind : (Is : Told → Type 0) (xs ys : List Told) → OfEach Is xs → OfEach Is ys → OfEach Is (xs ++ ys)
each_behind Is [] ys f g = g
each_behind Is (x ∷ xs) ys f g = (f.0, each_behind Is xs ys f.1 g)

-- ---- where they stand

pub stand_under : (s : Side) (t u : Term) (xs : List Standing) → ((p : Place) → part_at (s ∷ p) t ≡ part_at p u) →
    Stand u xs → Stand t (all_under s xs)
stand_under s t u [] same h = tt
stand_under s t u (x ∷ xs) same h = (same x.place ∙ h.0, stand_under s t u xs same h.1)

pub stand_behind : (t : Term) (xs ys : List Standing) → Stand t xs → Stand t ys → Stand t (xs ++ ys)
stand_behind t [] ys f g = g
stand_behind t (x ∷ xs) ys f g = (f.0, stand_behind t xs ys f.1 g)

-- ---- what an assignment has of them

pub has_under : (s : Side) (at : Assignment) (xs : List Standing) → HasEach (on_side s at) xs → HasEach at (all_under s xs)
has_under s at [] h = tt
has_under s at (x ∷ xs) h = (h.0, has_under s at xs h.1)

pub has_inside : (s : Side) (at : Assignment) (xs : List Standing) → HasEach at (all_under s xs) → HasEach (on_side s at) xs
has_inside s at [] h = tt
has_inside s at (x ∷ xs) h = (h.0, has_inside s at xs h.1)

pub has_behind : (at : Assignment) (xs ys : List Standing) → HasEach at xs → HasEach at ys → HasEach at (xs ++ ys)
has_behind at [] ys f g = g
has_behind at (x ∷ xs) ys f g = (f.0, has_behind at xs ys f.1 g)

pub has_first : (at : Assignment) (xs ys : List Standing) → HasEach at (xs ++ ys) → HasEach at xs
has_first at [] ys h = tt
has_first at (x ∷ xs) ys h = (h.0, has_first at xs ys h.1)

pub has_last : (at : Assignment) (xs ys : List Standing) → HasEach at (xs ++ ys) → HasEach at ys
has_last at [] ys h = h
has_last at (x ∷ xs) ys h = has_last at xs ys h.1

pub has_as : (at by : Assignment) (xs : List Standing) → ((p : Place) → at p ≡ by p) → HasEach by xs → HasEach at xs
has_as at by [] same h = tt
has_as at by (x ∷ xs) same h = (same x.place ∙ h.0, has_as at by xs same h.1)

pub others_of_each : (p : Place) (at : Assignment) (xs : List Standing) → HasEach at xs → HasOthers p at xs
others_of_each p at [] h = tt
others_of_each p at (x ∷ xs) h = ((λ _. h.0), others_of_each p at xs h.1)

pub others_under : (s : Side) (p : Place) (at : Assignment) (xs : List Standing) → HasOthers p (on_side s at) xs →
    HasOthers (s ∷ p) at (all_under s xs)
others_under s p at [] h = tt
others_under s p at (x ∷ xs) h =
    ((λ apart. h.0 (λ e. apart (ap (λ (q : Place). s ∷ q) e))), others_under s p at xs h.1)

pub others_behind : (p : Place) (at : Assignment) (xs ys : List Standing) → HasOthers p at xs → HasOthers p at ys →
    HasOthers p at (xs ++ ys)
others_behind p at [] ys f g = g
others_behind p at (x ∷ xs) ys f g = (f.0, others_behind p at xs ys f.1 g)

-- ---- no two at one place

pub apart_under : (s : Side) (p : Place) (xs : List Standing) → IsApart p xs → IsApart (s ∷ p) (all_under s xs)
apart_under s p [] h = tt
apart_under s p (x ∷ xs) h = ((λ e. h.0 (cc)), apart_under s p xs h.1)

pub all_apart_under : (s : Side) (xs : List Standing) → AreApart xs → AreApart (all_under s xs)
all_apart_under s [] h = tt
all_apart_under s (x ∷ xs) h = (apart_under s x.place xs h.0, all_apart_under s xs h.1)

pub apart_from_side : (s r : Side) (p : Place) (xs : List Standing) → s ≢ r → IsApart (s ∷ p) (all_under r xs)
apart_from_side s r p [] h = tt
apart_from_side s r p (x ∷ xs) h = ((λ e. h (cc)), apart_from_side s r p xs h)

pub apart_behind : (p : Place) (xs ys : List Standing) → IsApart p xs → IsApart p ys → IsApart p (xs ++ ys)
apart_behind p [] ys f g = g
apart_behind p (x ∷ xs) ys f g = (f.0, apart_behind p xs ys f.1 g)

pub all_apart_behind : (s r : Side) (xs ys : List Standing) → s ≢ r → AreApart xs → AreApart (all_under r ys) →
    AreApart (all_under s xs ++ all_under r ys)
all_apart_behind s r [] ys h f g = g
all_apart_behind s r (x ∷ xs) ys h f g = (
  apart_behind (s ∷ x.place) (all_under s xs) (all_under r ys) (apart_under s x.place xs f.0) (apart_from_side s r x.place ys h),
  all_apart_behind s r xs ys h f.1 g,
)
