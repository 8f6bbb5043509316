-- The index of policies: where positions stand in it, policies stand that are looked at for it, and what is looked up.
use Rattle.std.proofs.Common.{◌≡◌, ◌⊎◌, inl, inr, refl, sym, ap, ◌∙◌, ℕ, zero, suc, ◌==◌, Bool, true, false, ◌||◌, ◌&&◌, List, [], ◌∷◌, ◌++◌, length, Option, Some}
use Rattle.std.proofs.lemmas.Bool.{or_cases, or_left, or_right, and_from, and_parts, eqb-true, eq-eqb}
use Rattle.std.proofs.lemmas.List.Folds.{list_any-append, list_all-append}
use Rattle.std.specs.List.{list_any}
use Rattle.std.specs.Prelude.{slice_get}
use Rattle.cedar_model.specs.Terms.{Text, EntityName}
use Rattle.cedar_model.specs.Outcomes.{text_eq}
use Rattle.cedar_model.specs.Settings.{is_among}
use Rattle.cedar_layers.specs.declared.policies.policy.Policy.{Policy}
use Rattle.cedar_layers.specs.declared.policies.scope_index.ScopeIndex.{ScopeIndex}
use Rattle.cedar_layers.specs.Policies.{PolicyView, policy_view}
use Rattle.cedar_layers.specs.Scopes.{principal_bound, action_bound, resource_bound, principal_type_bound, action_type_bound, resource_type_bound, IsBoundTo, IsBoundToType, is_one_of, asks_for, is_this_type, asks_for_type, is_in_rest, is_looked_at, Groups, TypeGroups, standing_under, standing_under_type, under_entity, under_type, has_position, is_looked_up, passes, AreFiledRight, Places, AreOfPositions}
use Rattle.cedar_model.proofs.Injections.{false_is_not_true}

-- ---- what one more policy changes

one_of : (n : EntityName) (o : Option (List EntityName)) (ns : List EntityName) → is_among n ns ≡ true → o ≡ Some ns → is_one_of n o ≡ true
one_of n o ns among h = ap (is_one_of n) h ∙ among

-- what a scope is bound to it asks for
pub bound_is_asked_for : (p : PolicyView) (ns : List EntityName) → IsBoundTo p ns → (n : EntityName) → is_among n ns ≡ true → asks_for n p ≡ true
bound_is_asked_for p ns (inl h) n among = or_left _ _ (one_of n (principal_bound p) ns among h)
bound_is_asked_for p ns (inr (inl h)) n among =
    or_right _ _ (or_left _ _ (one_of n (action_bound p) ns among h))
bound_is_asked_for p ns (inr (inr h)) n among =
    or_right _ _ (or_right _ _ (one_of n (resource_bound p) ns among h))

this_type : (u : Text) (o : Option Text) (t : Text) → text_eq u t ≡ true → o ≡ Some t → is_this_type u o ≡ true
this_type u o t same h = ap (is_this_type u) h ∙ same

pub bound_type_is_asked_for : (p : PolicyView) (t : Text) → IsBoundToType p t → (u : Text) → text_eq u t ≡ true → asks_for_type u p ≡ true
bound_type_is_asked_for p t (inl h) u same = or_left _ _ (this_type u (principal_type_bound p) t same h)
bound_type_is_asked_for p t (inr (inl h)) u same =
    or_right _ _ (or_left _ _ (this_type u (action_type_bound p) t same h))
bound_type_is_asked_for p t (inr (inr h)) u same =
    or_right _ _ (or_right _ _ (this_type u (resource_type_bound p) t same h))

-- it was so, or there is something new
abbrev pub WasOr : Bool → Bool → Bool → Type 0
WasOr was here asks = (was ≡ true) ⊎ ((here ≡ true) × (asks ≡ true))

was_or : (was here asks now : Bool) → now ≡ (was || (here && asks)) → now ≡ true → WasOr was here asks
was_or was here asks now e h = by (or_cases was (here && asks) (sym e ∙ h))
  where
    by : (was ≡ true) ⊎ ((here && asks) ≡ true) → WasOr was here asks
    by (inl k) = inl k
    by (inr k) = inr (and_parts here asks k)

pub asks_more : (was here these asks now : Bool) → now ≡ (was || (here && these)) → (these ≡ true → asks ≡ true) → now ≡ true → WasOr was here asks
asks_more was here these asks now e so h = by (was_or was here these now e h)
  where
    by : WasOr was here these → WasOr was here asks
    by (inl k) = inl k
    by (inr k) = inr (k.0, so k.1)

module _ {E : Type 0} (now was asks : E → Bool) (here : Bool) (each : (e : E) → now e ≡ true → WasOr (was e) here (asks e)) where
  of_any : (es : List E) → list_any now es ≡ true → WasOr (list_any was es) here (list_any asks es)
  of_any [] h = absurd (false_is_not_true h)
  of_any (e ∷ es) h = by (or_cases _ _ h) (of_any es)
    where
      first : WasOr (was e) here (asks e) → WasOr (was e || list_any was es) here (asks e || list_any asks es)
      first (inl k) = inl (or_left _ _ k)
      first (inr k) = inr (k.0, or_left _ _ k.1)

      others : WasOr (list_any was es) here (list_any asks es) → WasOr (was e || list_any was es) here (asks e || list_any asks es)
      others (inl k) = inl (or_right _ _ k)
      others (inr k) = inr (k.0, or_right _ _ k.1)

      by : (now e ≡ true) ⊎ (list_any now es ≡ true) → (list_any now es ≡ true → WasOr (list_any was es) here (list_any asks es))
          → WasOr (was e || list_any was es) here (asks e || list_any asks es)
      by (inl k) rest = first (each e k)
      by (inr k) rest = others (rest k)

-- no position is looked up that was not, but the new one for what the policy is looked at for
module _ (old new : ScopeIndex) (i : ℕ) (p : PolicyView)
    (rest : (j : ℕ) → has_position j new.rest.items ≡ true → WasOr (has_position j old.rest.items) (j == i) (is_in_rest p))
    (entities : (j : ℕ) (e : EntityName) → has_position j (under_entity new e) ≡ true → WasOr (has_position j (under_entity old e)) (j == i) (asks_for e p))
    (types : (j : ℕ) (t : Text) → has_position j (under_type new t) ≡ true → WasOr (has_position j (under_type old t)) (j == i) (asks_for_type t p)) where
  pub only_these : (es : List EntityName) (j : ℕ) → is_looked_up new es j ≡ true → (is_looked_up old es j || (j == i && is_looked_at es p)) ≡ true
  only_these es j h = by (or_cases _ _ h)
    where
      of_rest : WasOr (has_position j old.rest.items) (j == i) (is_in_rest p) → (is_looked_up old es j || (j == i && is_looked_at es p)) ≡ true
      of_rest (inl k) = or_left _ _ (or_left _ _ k)
      of_rest (inr k) = or_right _ _ (and_from _ _ k.0 (or_left _ _ k.1))

      of_entities : WasOr (list_any (λ e. has_position j (under_entity old e)) es) (j == i) (list_any (λ e. asks_for e p) es)
          → (is_looked_up old es j || (j == i && is_looked_at es p)) ≡ true
      of_entities (inl k) = or_left _ _ (or_right _ _ (or_left _ _ k))
      of_entities (inr k) = or_right _ _ (and_from _ _ k.0 (or_right _ _ (or_left _ _ k.1)))

      of_types : WasOr (list_any (λ e. has_position j (under_type old e.type_name)) es) (j == i) (list_any (λ e. asks_for_type e.type_name p) es)
          → (is_looked_up old es j || (j == i && is_looked_at es p)) ≡ true
      of_types (inl k) = or_left _ _ (or_right _ _ (or_right _ _ k))
      of_types (inr k) = or_right _ _ (and_from _ _ k.0 (or_right _ _ (or_right _ _ k.1)))

      named : (list_any (λ e. has_position j (under_entity new e)) es ≡ true) ⊎ (list_any (λ e. has_position j (under_type new e.type_name)) es ≡ true)
          → (is_looked_up old es j || (j == i && is_looked_at es p)) ≡ true
      named (inl k) =
          of_entities (of_any (λ e. has_position j (under_entity new e)) (λ e. has_position j (under_entity old e)) (λ e. asks_for e p) (j == i) (entities j) es k)
      named (inr k) =
          of_types (of_any (λ (e : EntityName). has_position j (under_type new e.type_name)) (λ e. has_position j (under_type old e.type_name)) (λ e. asks_for_type e.type_name p) (j == i) (λ e. types j e.type_name) es k)

      by : (has_position j new.rest.items ≡ true)
          ⊎ ((list_any (λ e. has_position j (under_entity new e)) es || list_any (λ e. has_position j (under_type new e.type_name)) es) ≡ true)
          → (is_looked_up old es j || (j == i && is_looked_at es p)) ≡ true
      by (inl k) = of_rest (rest j k)
      by (inr k) = named (or_cases _ _ k)

-- ---- of all policies of a list

none_of : {E : Type 0} (es : List E) → list_any (λ e. false) es ≡ true → ⊥
none_of [] h = false_is_not_true h
none_of (e ∷ es) h = none_of es h

pub nothing_filed : (index : ScopeIndex) (ps : List Policy) → index.rest.items ≡ [] → index.groups.entries ≡ [] → index.types.entries ≡ [] → AreFiledRight index ps
nothing_filed index ps e f g es i h = absurd (by (or_cases _ _ h))
  where
    named : (list_any (λ x. has_position i (under_entity index x)) es ≡ true) ⊎ (list_any (λ x. has_position i (under_type index x.type_name)) es ≡ true) → ⊥
    named (inl k) =
        none_of es (sym (ap (λ (gs : Groups). list_any (λ x. has_position i (standing_under gs x)) es) f) ∙ k)
    named (inr k) =
        none_of es (sym (ap (λ (ts : TypeGroups). list_any (λ (x : EntityName). has_position i (standing_under_type ts x.type_name)) es) g) ∙ k)

    by : (has_position i index.rest.items ≡ true)
        ⊎ ((list_any (λ x. has_position i (under_entity index x)) es || list_any (λ x. has_position i (under_type index x.type_name)) es) ≡ true) → ⊥
    by (inl k) = false_is_not_true (sym (ap (has_position i) e) ∙ k)
    by (inr k) = named (or_cases _ _ k)

module _ (test : Policy → Bool) (p : Policy) where
  passes_before : (ps : List Policy) (i : ℕ) → passes test (slice_get ps i) ≡ true → passes test (slice_get (ps ++ p ∷ []) i) ≡ true
  passes_before [] i h = absurd (false_is_not_true h)
  passes_before (x ∷ ps) zero h = h
  passes_before (x ∷ ps) (suc i) h = passes_before ps i h

  passes_last : (ps : List Policy) → test p ≡ true → passes test (slice_get (ps ++ p ∷ []) (length ps)) ≡ true
  passes_last [] h = h
  passes_last (x ∷ ps) h = passes_last ps h

pub filed_more : (old new : ScopeIndex) (ps qs : List Policy) (p : Policy) (n : ℕ) → qs ≡ ps ++ p ∷ [] → n ≡ length ps → AreFiledRight old ps → Places old new n (policy_view p) → AreFiledRight new qs
filed_more old new ps qs p n e count before more es i h =
    ap (λ (xs : List Policy). passes (λ q. is_looked_at es (policy_view q)) (slice_get xs i)) e ∙ by (or_cases _ _ (more.only es i h))
  where
    by : (is_looked_up old es i ≡ true) ⊎ ((i == n && is_looked_at es (policy_view p)) ≡ true) → passes (λ q. is_looked_at es (policy_view q)) (slice_get (ps ++ p ∷ []) i) ≡ true
    by (inl k) = passes_before (λ q. is_looked_at es (policy_view q)) p ps i (before es i k)
    by (inr k) =
        let both = and_parts (i == n) (is_looked_at es (policy_view p)) k in
        let at : i ≡ length ps = eqb-true i n both.0 ∙ count in
        ap (λ j. passes (λ q. is_looked_at es (policy_view q)) (slice_get (ps ++ p ∷ []) j)) at
        ∙ passes_last (λ q. is_looked_at es (policy_view q)) p ps both.1

-- ---- what is picked

-- the policies are of these positions, and so are the positions that are left
pub record AreTakenSoFar (ns : List ℕ) (all done : List Policy) (left : List ℕ) : Type 0 where
  pub among : (i : ℕ) → has_position i left ≡ true → has_position i ns ≡ true
  pub of_positions : AreOfPositions ns all done

module _ (ns : List ℕ) (all done : List Policy) (left rest : List ℕ) (at : ℕ) (first : left ≡ at ∷ rest) (before : AreTakenSoFar ns all done left) where
  -- the last position again
  pub taken_again : AreTakenSoFar ns all done rest
  taken_again = record {
    among = λ i h. before.among i (ap (has_position i) first ∙ or_right (i == at) (has_position i rest) h);
    of_positions = before.of_positions;
  }

  -- another position
  pub taken_more : (p : Policy) → slice_get all at ≡ Some p → AreTakenSoFar ns all (done ++ p ∷ []) rest
  taken_more p here = record {
    among = λ i h. before.among i (ap (has_position i) first ∙ or_right (i == at) (has_position i rest) h);
    of_positions = λ test at_all.
        let own : has_position at ns ≡ true =
        before.among at (ap (has_position at) first ∙ or_left (at == at) (has_position at rest) (eq-eqb at at refl)) in
        let passed : test p ≡ true = sym (ap (passes test) here) ∙ at_all at own in
        list_all-append test done (p ∷ []) ∙ and_from _ _ (before.of_positions test at_all) (and_from (test p) true passed refl);
  }
