-- What a condition means in a world is what it comes to where each part comes to what it means.
use Rattle.std.proofs.Common.{◌≡◌, ◌≢◌, ◌∙◌, List, [], ◌∷◌, Bool, true, false, Option, Some, None, cond, not, ap, ap₂, sym, subst, refl}
use Rattle.cedar_model.specs.Terms.{bool_literal, long_literal, text_literal, entity_literal, not_operator, neg_operator, is_empty_operator, Term, literal, variable}
use Rattle.cedar_model.specs.Terms.{slot, unknown, if_then_else, both, either, unary, binary, call, get_attribute}
use Rattle.cedar_model.specs.Terms.{has_attribute, extended_has, like, is_of_type, set_of, record_of}
use Rattle.cedar_model.specs.Outcomes.{type_error, integer_overflow}
use Rattle.cedar_model.specs.Outcomes.{Outcome, gives, errs, gives_bool, and_then, needing, bool_of}
use Rattle.cedar_model.specs.World.{World, Slots, Extensions, Functions}
use Rattle.cedar_model.specs.Meaning.{meaning, unary_meaning, and_then_bool}
use Rattle.cedar_model.specs.Failures.{FailureKind, of_meaning}
use Rattle.cedar_explain.specs.Outcomes.{Came, came_true, came_false, came_other, came_failing, came_bool, meant, as_side, negated, chosen}
use Rattle.cedar_explain.specs.Places.{first_side, second_side, third_side, Place, is_part, part_at, Assignment, comes_to}
use Rattle.cedar_explain.specs.Explained.{Told, OfEach, ComeOutSo, Decide, Standing, Stand, HasEach, EachTurns, EachErrs, AreNeeded, Walked}
use Rattle.cedar_explain.proofs.Standings.{tolds}

-- ---- connectives of what is meant

side_of_bool : (b : Option Bool) → as_side (came_bool b) ≡ meant (needing b gives_bool)
unfolding needing bool_of
side_of_bool None = refl
side_of_bool (Some true) = refl
side_of_bool (Some false) = refl

side_meant : (o : Outcome) → as_side (meant o) ≡ meant (and_then_bool o gives_bool)
unfolding and_then
side_meant (gives v) = side_of_bool (bool_of v)
side_meant (errs e) = refl

not_of_bool : (b : Option Bool) → negated (came_bool b) ≡ meant (needing b (λ t. gives_bool (not t)))
unfolding needing bool_of
not_of_bool None = refl
not_of_bool (Some true) = refl
not_of_bool (Some false) = refl

not_meant : (o : Outcome) → negated (meant o) ≡ meant (and_then o (unary_meaning not_operator))
unfolding and_then unary_meaning
not_meant (gives v) = not_of_bool (bool_of v)
not_meant (errs e) = refl

choice_of_bool : (b : Option Bool) (p q : Outcome) → chosen (came_bool b) (meant p) (meant q) ≡ meant (needing b (λ t. cond t p q))
unfolding needing
choice_of_bool None p q = refl
choice_of_bool (Some true) p q = refl
choice_of_bool (Some false) p q = refl

choice_meant : (o p q : Outcome) → chosen (meant o) (meant p) (meant q) ≡ meant (and_then_bool o (λ t. cond t p q))
unfolding and_then
choice_meant (gives v) p q = choice_of_bool (bool_of v) p q
choice_meant (errs e) p q = refl

true_meant : came_true ≡ meant (gives_bool true)
unfolding bool_of
true_meant = refl

false_meant : came_false ≡ meant (gives_bool false)
unfolding bool_of
false_meant = refl

-- ---- the condition in a world

module _ (X : Extensions) (ans : Functions) (w : World) (slots : Slots) where
  abbrev M : Term → Came
  M t = meant (meaning X ans w slots t)

  abbrev part_means : Option Term → Came
  part_means None = came_other
  part_means (Some t) = M t

  -- each part of a condition comes to what it means
  abbrev means_at : Term → Assignment
  means_at t p = part_means (part_at p t)

  comes_as_meant : (t : Term) → comes_to (means_at t) t ≡ M t
  unfolding meaning bool_of
  comes_as_meant (literal (bool_literal b)) = refl
  comes_as_meant (literal (long_literal n)) = refl
  comes_as_meant (literal (text_literal t)) = refl
  comes_as_meant (literal (entity_literal e)) = refl
  comes_as_meant (variable v) = refl
  comes_as_meant (slot s) = refl
  comes_as_meant (unknown n t) = refl
  comes_as_meant (if_then_else c a b) =
      (λ i. chosen (comes_as_meant c i) (comes_as_meant a i) (comes_as_meant b i))
      ∙ choice_meant (meaning X ans w slots c) (meaning X ans w slots a) (meaning X ans w slots b)
  comes_as_meant (both a b) =
      (λ i. chosen (comes_as_meant a i) (as_side (comes_as_meant b i)) came_false)
      ∙ ap₂ (λ (x y : Came). chosen (M a) x y) (side_meant (meaning X ans w slots b)) false_meant
      ∙ choice_meant (meaning X ans w slots a) (and_then_bool (meaning X ans w slots b) gives_bool) (gives_bool false)
  comes_as_meant (either a b) =
      (λ i. chosen (comes_as_meant a i) came_true (as_side (comes_as_meant b i)))
      ∙ ap₂ (λ (x y : Came). chosen (M a) x y) true_meant (side_meant (meaning X ans w slots b))
      ∙ choice_meant (meaning X ans w slots a) (gives_bool true) (and_then_bool (meaning X ans w slots b) gives_bool)
  comes_as_meant (unary not_operator a) = (λ i. negated (comes_as_meant a i)) ∙ not_meant (meaning X ans w slots a)
  comes_as_meant (unary neg_operator a) = refl
  comes_as_meant (unary is_empty_operator a) = refl
  comes_as_meant (binary op a b) = refl
  comes_as_meant (call f ts) = refl
  comes_as_meant (get_attribute a k) = refl
  comes_as_meant (has_attribute a k) = refl
  comes_as_meant (extended_has a k ks) = refl
  comes_as_meant (like a p) = refl
  comes_as_meant (is_of_type a t) = refl
  comes_as_meant (set_of ts) = refl
  comes_as_meant (record_of fs) = refl

  meant_each : (t : Term) (ss : List Standing) → Stand t ss → ComeOutSo X ans w slots (tolds ss) → HasEach (means_at t) ss
  meant_each t [] f g = tt
  meant_each t (s ∷ ss) f g = (ap part_means f.0 ∙ g.0, meant_each t ss f.1 g.1)

pub decided : (t : Term) (ps : List Told) (o : Came) → AreNeeded t ps o → Decide t ps o
decided t ps o n X ans w slots so =
    sym (comes_as_meant X ans w slots t)
    ∙ n.settled (means_at X ans w slots t)
    (meant_each X ans w slots t n.standing n.stand (subst (λ (qs : List Told). ComeOutSo X ans w slots qs) (sym n.are_these) so))

-- ---- what is named are parts

part_here : (b : Bool) (t s : Term) → is_part t ≡ b → cond b (Some t) None ≡ Some s → is_part s ≡ true
part_here true t s is h = let e : t ≡ s = cc in subst (λ (u : Term). is_part u ≡ true) e is
part_here false t s is h = absurd (cc)

is_part_at : (p : Place) (t s : Term) → part_at p t ≡ Some s → is_part s ≡ true
is_part_at [] t s h = part_here (is_part t) t s refl h
is_part_at (first_side ∷ p) (both a b) s h = is_part_at p a s h
is_part_at (second_side ∷ p) (both a b) s h = is_part_at p b s h
is_part_at (first_side ∷ p) (either a b) s h = is_part_at p a s h
is_part_at (second_side ∷ p) (either a b) s h = is_part_at p b s h
is_part_at (first_side ∷ p) (unary not_operator a) s h = is_part_at p a s h
is_part_at (first_side ∷ p) (if_then_else c a b) s h = is_part_at p c s h
is_part_at (second_side ∷ p) (if_then_else c a b) s h = is_part_at p a s h
is_part_at (third_side ∷ p) (if_then_else c a b) s h = is_part_at p b s h
is_part_at (r ∷ p) t s h = absurd (cc)

parts_each : (t : Term) (ss : List Standing) → Stand t ss → OfEach (λ q. is_part q.term ≡ true) (tolds ss)
parts_each t [] h = tt
parts_each t (s ∷ ss) h = (is_part_at s.place t s.told.term h.0, parts_each t ss h.1)

pub are_parts : (t : Term) (ps : List Told) (o : Came) → AreNeeded t ps o → OfEach (λ q. is_part q.term ≡ true) ps
are_parts t ps o n = subst (OfEach (λ q. is_part q.term ≡ true)) n.are_these (parts_each t n.standing n.stand)

-- ---- a walk that is whole

-- an error that this is not
other_failing : (o : Came) → (k : FailureKind) × (came_failing k ≢ o)
other_failing came_true = (of_meaning type_error, λ e. cc)
other_failing came_false = (of_meaning type_error, λ e. cc)
other_failing came_other = (of_meaning type_error, λ e. cc)
other_failing (came_failing (of_meaning type_error)) = (of_meaning integer_overflow, λ e. cc)
other_failing (came_failing k) = (of_meaning type_error, λ e. cc)

turns : (t : Term) (k : FailureKind) (o : Came) (all ss : List Standing) → came_failing k ≢ o → EachErrs t k all ss → EachTurns t o all ss
turns t k o all [] other h = tt
turns t k o all (s ∷ ss) other h =
    ((h.0.0, h.0.1, λ e. other (sym h.0.2 ∙ e)), turns t k o all ss other h.1)

pub are_needed : (Is : Told → Type 0) (t : Term) (ps : List Told) (o : Came) → Walked Is t [] ps o → AreNeeded t ps o
are_needed Is t ps o w =
    let other = other_failing o in
    record {
      standing = w.standing;
      are_these = sym w.are_behind;
      stand = w.stand;
      apart = w.apart;
      settled = w.settled;
      turn = turns t other.0 o w.standing w.standing other.1 (w.err other.0);
    }

pub each_is : (Is : Told → Type 0) (t : Term) (ps : List Told) (o : Came) → Walked Is t [] ps o → OfEach Is ps
each_is Is t ps o w = subst (OfEach Is) (sym w.are_behind) w.each
