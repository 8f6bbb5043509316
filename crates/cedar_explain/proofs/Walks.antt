-- A walk through a connective, of walks through its sides.
use Rattle.std.proofs.Common.{◌≡◌, ◌≢◌, ◌∙◌, List, [], ◌∷◌, ◌++◌, Bool, true, Some, None, cond, ap, ap₂, sym, subst, subst₂, refl, append_assoc, append-nil}
use Rattle.cedar_model.specs.Terms.{bool_literal, long_literal, text_literal, entity_literal, not_operator, neg_operator, is_empty_operator, Term, literal, variable}
use Rattle.cedar_model.specs.Terms.{slot, unknown, if_then_else, both, either, unary, binary, call, get_attribute}
use Rattle.cedar_model.specs.Terms.{has_attribute, extended_has, like, is_of_type, set_of, record_of}
use Rattle.cedar_model.specs.Failures.{FailureKind, Answer}
use Rattle.cedar_explain.specs.Outcomes.{Came, came_true, came_false, came_other, came_failing, came_bool, answered, as_side, negated, chosen}
use Rattle.cedar_explain.specs.Places.{Side, first_side, second_side, third_side, Place, is_part, part_at, Assignment, on_side, comes_to}
use Rattle.cedar_explain.specs.Explained.{Told, OfEach, Standing, HasEach, HasOthers, EachErrs, Walked}
use Rattle.cedar_explain.proofs.Standings.{all_under, tolds, told_under, told_behind, each_behind, stand_under, stand_behind}
use Rattle.cedar_explain.proofs.Standings.{has_under, has_inside, has_behind, has_first, has_last, others_of_each, others_under}
use Rattle.cedar_explain.proofs.Standings.{others_behind, all_apart_under, all_apart_behind}

-- the first side comes to what the one assignment says, the others to what the other does
abbrev beside : Assignment → Assignment → Assignment
beside f g [] = came_other
beside f g (first_side ∷ p) = f p
beside f g (second_side ∷ p) = g p
beside f g (third_side ∷ p) = g p

-- ---- a part

alone : (at : Assignment) (t : Term) → is_part t ≡ true → comes_to at t ≡ at []
alone at (literal (bool_literal b)) h = absurd (cc)
alone at (literal (long_literal n)) h = refl
alone at (literal (text_literal t)) h = refl
alone at (literal (entity_literal e)) h = refl
alone at (variable v) h = refl
alone at (slot s) h = refl
alone at (unknown n t) h = refl
alone at (if_then_else c a b) h = absurd (cc)
alone at (both a b) h = absurd (cc)
alone at (either a b) h = absurd (cc)
alone at (unary not_operator a) h = absurd (cc)
alone at (unary neg_operator a) h = refl
alone at (unary is_empty_operator a) h = refl
alone at (binary op a b) h = refl
alone at (call f ts) h = refl
alone at (get_attribute a k) h = refl
alone at (has_attribute a k) h = refl
alone at (extended_has a k ks) h = refl
alone at (like a p) h = refl
alone at (is_of_type a t) h = refl
alone at (set_of ts) h = refl
alone at (record_of fs) h = refl

-- a connective with this first side comes to `o` where that comes to `c`
record OneSide (t a : Term) (c o : Came) : Type 0 where
  first : (p : Place) → part_at (first_side ∷ p) t ≡ part_at p a
  goes : (at : Assignment) → comes_to (on_side first_side at) a ≡ c → comes_to at t ≡ o
  passes : (at : Assignment) (k : FailureKind) → comes_to (on_side first_side at) a ≡ came_failing k → comes_to at t ≡ came_failing k

-- there it comes to `G` of what this other side comes to
record TwoSides (t a b : Term) (s : Side) (c : Came) (G : Came → Came) : Type 0 where
  first : (p : Place) → part_at (first_side ∷ p) t ≡ part_at p a
  other : (p : Place) → part_at (s ∷ p) t ≡ part_at p b
  is_other : first_side ≢ s
  takes_other : (f g : Assignment) (p : Place) → beside f g (s ∷ p) ≡ g p
  goes : (at : Assignment) → comes_to (on_side first_side at) a ≡ c → comes_to at t ≡ G (comes_to (on_side s at) b)
  passes : (at : Assignment) (k : FailureKind) → comes_to (on_side first_side at) a ≡ came_failing k → comes_to at t ≡ came_failing k
  keeps : (k : FailureKind) → G (came_failing k) ≡ came_failing k

errs_behind : (t : Term) (k : FailureKind) (all xs ys : List Standing) → EachErrs t k all xs → EachErrs t k all ys →
    EachErrs t k all (xs ++ ys)
errs_behind t k all [] ys f g = g
errs_behind t k all (x ∷ xs) ys f g = (f.0, errs_behind t k all xs ys f.1 g)

-- without a part of the first side, one side alone
errs_alone : (t u : Term) (k : FailureKind) (all xs : List Standing) →
    ((at : Assignment) → comes_to (on_side first_side at) u ≡ came_failing k → comes_to at t ≡ came_failing k) →
    EachErrs u k all xs → EachErrs t k (all_under first_side all) (all_under first_side xs)
errs_alone t u k all [] passes h = tt
errs_alone t u k all (x ∷ xs) passes h =
    let f = h.0.0 in
    let at : Assignment = beside f f in
    ((at, others_under first_side x.place at all h.0.1, passes at h.0.2), errs_alone t u k all xs passes h.1)

-- ---- a walk through a connective

module _ (Is : Told → Type 0) where
  -- a part is put behind the others
  pub part_walked : (t : Term) (a : Answer) (before : List Told) → is_part t ≡ true →
      Is (record { term = t; answer = a }) →
      Walked Is t before (before ++ (record { term = t; answer = a } ∷ [])) (answered a)
  part_walked t a before none is =
      let one : Standing = record { place = []; told = record { term = t; answer = a } } in
      record {
        standing = one ∷ [];
        are_behind = refl;
        each = (is, tt);
        stand = (subst (λ b. cond b (Some t) None ≡ Some t) (sym none) refl, tt);
        apart = (tt, tt);
        settled = λ at h. alone at t none ∙ h.0;
        some = ((λ _. answered a), (refl, tt));
        err = λ k. (((λ _. came_failing k), ((λ apart. absurd (apart refl)), tt), alone (λ _. came_failing k) t none), tt);
      }

  -- `true` and `false` are not
  pub truth_walked : (t : Term) (b : Bool) (before : List Told) → t ≡ literal (bool_literal b) →
      Walked Is t before before (came_bool (Some b))
  truth_walked t b before is =
      subst (λ (u : Term). Walked Is u before before (came_bool (Some b))) (sym is)
      (record {
        standing = [];
        are_behind = sym (append-nil before);
        each = tt;
        stand = tt;
        apart = tt;
        settled = λ at h. refl;
        some = ((λ _. came_other), tt);
        err = λ k. tt;
      })

  one_walked : (t a : Term) (c o : Came) (before after : List Told) → OneSide t a c o → Walked Is a before after c →
      Walked Is t before after o
  one_walked t a c o before after side w =
      let xs = w.standing in
      let f = w.some.0 in
      let at : Assignment = beside f f in
      let told : tolds (all_under first_side xs) ≡ tolds xs = told_under first_side xs in
      record {
        standing = all_under first_side xs;
        are_behind = w.are_behind ∙ ap (λ (ps : List Told). before ++ ps) (sym told);
        each = subst (OfEach Is) (sym told) w.each;
        stand = stand_under first_side t a xs side.first w.stand;
        apart = all_apart_under first_side xs w.apart;
        settled = λ by h. side.goes by (w.settled (on_side first_side by) (has_inside first_side by xs h));
        some = (at, has_under first_side at xs w.some.1);
        err = λ k. errs_alone t a k xs xs (λ by e. side.passes by k e) (w.err k);
      }

  two_walked : (t a b : Term) (s : Side) (c d : Came) (G : Came → Came) (before middle after : List Told) →
      TwoSides t a b s c G → Walked Is a before middle c → Walked Is b middle after d → Walked Is t before after (G d)
  two_walked t a b s c d G before middle after sides v w =
      let xs = v.standing in
      let ys = w.standing in
      let f = v.some.0 in
      let g = w.some.0 in
      let told : tolds (all_under first_side xs ++ all_under s ys) ≡ tolds xs ++ tolds ys =
      told_behind (all_under first_side xs) (all_under s ys) ∙ ap₂ (λ (ps qs : List Told). ps ++ qs) (told_under first_side xs) (told_under s ys) in
      record {
        standing = all_under first_side xs ++ all_under s ys;
        are_behind =
            w.are_behind ∙ ap (λ (ps : List Told). ps ++ tolds ys) v.are_behind ∙ append_assoc before (tolds xs) (tolds ys)
            ∙ ap (λ (ps : List Told). before ++ ps) (sym told);
        each = subst (OfEach Is) (sym told) (each_behind Is (tolds xs) (tolds ys) v.each w.each);
        stand =
            stand_behind t (all_under first_side xs) (all_under s ys) (stand_under first_side t a xs sides.first v.stand)
            (stand_under s t b ys sides.other w.stand);
        apart = all_apart_behind first_side s xs ys sides.is_other v.apart (all_apart_under s ys w.apart);
        settled = λ by h.
            sides.goes by (v.settled (on_side first_side by) (has_inside first_side by xs (has_first by (all_under first_side xs) (all_under s ys) h)))
            ∙ ap G (w.settled (on_side s by) (has_inside s by ys (has_last by (all_under first_side xs) (all_under s ys) h)));
        some = (
          beside f g,
          has_behind (beside f g) (all_under first_side xs) (all_under s ys) (has_under first_side (beside f g) xs v.some.1)
              (has_under s (beside f g) ys (subst (λ (h : Assignment). HasEach h ys) (sym (other_is f g)) w.some.1)),
        );
        err = λ k.
            errs_behind t k (all_under first_side xs ++ all_under s ys) (all_under first_side xs) (all_under s ys) (first_errs k xs (v.err k))
            (other_errs k ys (w.err k));
      }
    where
      all : List Standing
      all = all_under first_side v.standing ++ all_under s w.standing

      other_is : (f g : Assignment) → on_side s (beside f g) ≡ g
      other_is f g i p = sides.takes_other f g p i

      first_errs : (k : FailureKind) (xs : List Standing) → EachErrs a k v.standing xs → EachErrs t k all (all_under first_side xs)
      first_errs k [] h = tt
      first_errs k (x ∷ xs) h =
          let f = h.0.0 in
          let g = w.some.0 in
          let at : Assignment = beside f g in
          let place : Place = first_side ∷ x.place in
          let others =
          others_behind place at (all_under first_side v.standing) (all_under s w.standing)
          (others_under first_side x.place at v.standing h.0.1)
          (others_of_each place at (all_under s w.standing)
          (has_under s at w.standing (subst (λ (h : Assignment). HasEach h w.standing) (sym (other_is f g)) w.some.1))) in
          ((at, others, sides.passes at k h.0.2), first_errs k xs h.1)

      other_errs : (k : FailureKind) (ys : List Standing) → EachErrs b k w.standing ys → EachErrs t k all (all_under s ys)
      other_errs k [] h = tt
      other_errs k (y ∷ ys) h =
          let f = v.some.0 in
          let g = h.0.0 in
          let at : Assignment = beside f g in
          let place : Place = s ∷ y.place in
          let others =
          others_behind place at (all_under first_side v.standing) (all_under s w.standing)
          (others_of_each place at (all_under first_side v.standing) (has_under first_side at v.standing v.some.1))
          (others_under s y.place at w.standing
          (subst (λ (h : Assignment). HasOthers y.place h w.standing) (sym (other_is f g)) h.0.1)) in
          let errs : comes_to (on_side s at) b ≡ came_failing k = ap (λ (h : Assignment). comes_to h b) (other_is f g) ∙ h.0.2 in
          ((at, others, sides.goes at (v.settled f v.some.1) ∙ ap G errs ∙ sides.keeps k), other_errs k ys h.1)

  -- ---- `&&`

  pub and_true : (t a b : Term) (d o : Came) (before middle after : List Told) → t ≡ both a b → o ≡ as_side d →
      Walked Is a before middle came_true → Walked Is b middle after d → Walked Is t before after o
  and_true t a b d o before middle after is so v w =
      subst₂ (λ (u : Term) (e : Came). Walked Is u before after e) (sym is) (sym so)
      (two_walked (both a b) a b second_side came_true d as_side before middle after (record {
        first = λ p. refl;
        other = λ p. refl;
        is_other = λ e. cc;
        takes_other = λ f g p. refl;
        goes = λ at e. ap (λ (x : Came). chosen x (as_side (comes_to (on_side second_side at) b)) came_false) e;
        passes = λ at k e. ap (λ (x : Came). chosen x (as_side (comes_to (on_side second_side at) b)) came_false) e;
        keeps = λ k. refl;
      }) v w)

  pub and_alone : (t a b : Term) (c o : Came) (before after : List Told) → t ≡ both a b →
      ((x : Came) → chosen c x came_false ≡ o) → Walked Is a before after c → Walked Is t before after o
  and_alone t a b c o before after is so v =
      subst (λ (u : Term). Walked Is u before after o) (sym is)
      (one_walked (both a b) a c o before after (record {
        first = λ p. refl;
        goes = λ at e.
            ap (λ (x : Came). chosen x (as_side (comes_to (on_side second_side at) b)) came_false) e
            ∙ so (as_side (comes_to (on_side second_side at) b));
        passes = λ at k e. ap (λ (x : Came). chosen x (as_side (comes_to (on_side second_side at) b)) came_false) e;
      }) v)

  -- ---- `||`

  pub or_false : (t a b : Term) (d o : Came) (before middle after : List Told) → t ≡ either a b → o ≡ as_side d →
      Walked Is a before middle came_false → Walked Is b middle after d → Walked Is t before after o
  or_false t a b d o before middle after is so v w =
      subst₂ (λ (u : Term) (e : Came). Walked Is u before after e) (sym is) (sym so)
      (two_walked (either a b) a b second_side came_false d as_side before middle after (record {
        first = λ p. refl;
        other = λ p. refl;
        is_other = λ e. cc;
        takes_other = λ f g p. refl;
        goes = λ at e. ap (λ (x : Came). chosen x came_true (as_side (comes_to (on_side second_side at) b))) e;
        passes = λ at k e. ap (λ (x : Came). chosen x came_true (as_side (comes_to (on_side second_side at) b))) e;
        keeps = λ k. refl;
      }) v w)

  pub or_alone : (t a b : Term) (c o : Came) (before after : List Told) → t ≡ either a b →
      ((x : Came) → chosen c came_true x ≡ o) → Walked Is a before after c → Walked Is t before after o
  or_alone t a b c o before after is so v =
      subst (λ (u : Term). Walked Is u before after o) (sym is)
      (one_walked (either a b) a c o before after (record {
        first = λ p. refl;
        goes = λ at e.
            ap (λ (x : Came). chosen x came_true (as_side (comes_to (on_side second_side at) b))) e
            ∙ so (as_side (comes_to (on_side second_side at) b));
        passes = λ at k e. ap (λ (x : Came). chosen x came_true (as_side (comes_to (on_side second_side at) b))) e;
      }) v)

  -- ---- `!`

  pub not_walked : (t a : Term) (c o : Came) (before after : List Told) → t ≡ unary not_operator a → o ≡ negated c →
      Walked Is a before after c → Walked Is t before after o
  not_walked t a c o before after is so v =
      subst₂ (λ (u : Term) (e : Came). Walked Is u before after e) (sym is) (sym so)
      (one_walked (unary not_operator a) a c (negated c) before after (record {
        first = λ p. refl;
        goes = λ at e. ap negated e;
        passes = λ at k e. ap negated e;
      }) v)

  -- ---- `if`

  pub if_true : (t c a b : Term) (o : Came) (before middle after : List Told) → t ≡ if_then_else c a b →
      Walked Is c before middle came_true → Walked Is a middle after o → Walked Is t before after o
  if_true t c a b o before middle after is v w =
      subst (λ (u : Term). Walked Is u before after o) (sym is)
      (two_walked (if_then_else c a b) c a second_side came_true o (λ x. x) before middle after (record {
        first = λ p. refl;
        other = λ p. refl;
        is_other = λ e. cc;
        takes_other = λ f g p. refl;
        goes = λ at e. ap (λ (x : Came). chosen x (comes_to (on_side second_side at) a) (comes_to (on_side third_side at) b)) e;
        passes = λ at k e. ap (λ (x : Came). chosen x (comes_to (on_side second_side at) a) (comes_to (on_side third_side at) b)) e;
        keeps = λ k. refl;
      }) v w)

  pub if_false : (t c a b : Term) (o : Came) (before middle after : List Told) → t ≡ if_then_else c a b →
      Walked Is c before middle came_false → Walked Is b middle after o → Walked Is t before after o
  if_false t c a b o before middle after is v w =
      subst (λ (u : Term). Walked Is u before after o) (sym is)
      (two_walked (if_then_else c a b) c b third_side came_false o (λ x. x) before middle after (record {
        first = λ p. refl;
        other = λ p. refl;
        is_other = λ e. cc;
        takes_other = λ f g p. refl;
        goes = λ at e. ap (λ (x : Came). chosen x (comes_to (on_side second_side at) a) (comes_to (on_side third_side at) b)) e;
        passes = λ at k e. ap (λ (x : Came). chosen x (comes_to (on_side second_side at) a) (comes_to (on_side third_side at) b)) e;
        keeps = λ k. refl;
      }) v w)

  pub if_alone : (t c a b : Term) (d o : Came) (before after : List Told) → t ≡ if_then_else c a b →
      ((x y : Came) → chosen d x y ≡ o) → Walked Is c before after d → Walked Is t before after o
  if_alone t c a b d o before after is so v =
      subst (λ (u : Term). Walked Is u before after o) (sym is)
      (one_walked (if_then_else c a b) c d o before after (record {
        first = λ p. refl;
        goes = λ at e.
            ap (λ (x : Came). chosen x (comes_to (on_side second_side at) a) (comes_to (on_side third_side at) b)) e
            ∙ so (comes_to (on_side second_side at) a) (comes_to (on_side third_side at) b);
        passes = λ at k e. ap (λ (x : Came). chosen x (comes_to (on_side second_side at) a) (comes_to (on_side third_side at) b)) e;
      }) v)
