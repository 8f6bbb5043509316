-- An entity's name is read back from its text.
use Rattle.std.specs.Prelude.{◌≡◌, ℕ, ◌==◌, Bool, true, false, cond, ◌||◌, [], ◌∷◌, ◌++◌, Option, Some, None}
use Rattle.std.specs.Prelude.{codes}
use Rattle.std.proofs.Common.{refl, ap, subst, sym, ◌∙◌}
use Rattle.std.proofs.lemmas.Bool.{or_parts, eqb-true}
use Rattle.cedar_model.specs.Terms.{Text, EntityName}
use Rattle.cedar_model.specs.Outcomes.{escaped}
use Rattle.cedar_model.specs.Settings.{printed_entity}
use Rattle.cedar_model.specs.Printing.{unquoted, id_here, with_byte, read_entity}
use Rattle.cedar_model.proofs.Injections.{false_is_not_true}

-- the id as it prints, after its first quote
abbrev quoted : Text → Text
quoted id = escaped id ++ codes "\""

-- a byte that is escaped is no colon
not_colon : (b : ℕ) → ((b == 34) || (b == 92)) ≡ true → (b == 58) ≡ false
not_colon b e = by (b == 58) refl
  where
    colon : b ≡ 58 → ((58 == 34) || (58 == 92)) ≡ true
    colon f = subst (λ c. ((c == 34) || (c == 92)) ≡ true) f e

    by : (c : Bool) → (b == 58) ≡ c → c ≡ false
    by false f = refl
    by true f = absurd (false_is_not_true (colon (eqb-true b 58 f)))

-- ---- where no id stands

none_first : (b : ℕ) (bs : Text) → (b == 58) ≡ false → id_here (b ∷ bs) ≡ None
unfolding id_here
none_first b [] e = refl
none_first b (c ∷ []) e = refl
none_first b (c ∷ d ∷ []) e = refl
none_first b (c ∷ d ∷ f ∷ fs) e =
    ap (λ x. cond x (cond (c == 58) (cond (d == 34) (Some (unquoted false (f ∷ fs))) None) None) None) e

cond_none : (b : Bool) (o : Option Text) → o ≡ None → cond b o None ≡ None
cond_none true o e = e
cond_none false o e = refl

none_second : (b c : ℕ) (bs : Text) → (c == 58) ≡ false → id_here (b ∷ c ∷ bs) ≡ None
unfolding id_here
none_second b c [] e = refl
none_second b c (d ∷ []) e = refl
none_second b c (d ∷ f ∷ fs) e =
    ap (λ x. cond (b == 58) (cond x (cond (d == 34) (Some (unquoted false (f ∷ fs))) None) None) None) e ∙
    cond_none (b == 58) _ refl

none_third : (b c d : ℕ) (bs : Text) → (d == 34) ≡ false → id_here (b ∷ c ∷ d ∷ bs) ≡ None
unfolding id_here
none_third b c d [] e = refl
none_third b c d (f ∷ fs) e =
    ap (λ x. cond (b == 58) (cond (c == 58) (cond x (Some (unquoted false (f ∷ fs))) None) None) None) e ∙
    cond_none (b == 58) _ (cond_none (c == 58) _ refl)

-- a byte before a quoted id makes no place
before_two : (b c : ℕ) (id : Text) → id_here (b ∷ c ∷ quoted id) ≡ None
unfolding escaped id_here
before_two b c [] = refl
before_two b c (d ∷ ds) = by ((d == 34) || (d == 92)) refl
  where
    by : (x : Bool) → ((d == 34) || (d == 92)) ≡ x →
        id_here (b ∷ c ∷ (cond x (92 ∷ d ∷ escaped ds) (d ∷ escaped ds) ++ codes "\"")) ≡ None
    by true e = none_third b c 92 (d ∷ (escaped ds ++ codes "\"")) refl
    by false e = none_third b c d (escaped ds ++ codes "\"") (or_parts _ _ e).0

before_one : (b : ℕ) (id : Text) → id_here (b ∷ quoted id) ≡ None
unfolding escaped id_here
before_one b [] = refl
before_one b (d ∷ ds) = by ((d == 34) || (d == 92)) refl
  where
    by : (x : Bool) → ((d == 34) || (d == 92)) ≡ x →
        id_here (b ∷ (cond x (92 ∷ d ∷ escaped ds) (d ∷ escaped ds) ++ codes "\"")) ≡ None
    by true e = none_second b 92 (d ∷ (escaped ds ++ codes "\"")) refl
    by false e = before_two b d ds

-- no entity is read in a quoted id
none_quoted : (id : Text) → read_entity (quoted id) ≡ None
unfolding escaped read_entity with_byte id_here
none_quoted [] = refl
none_quoted (d ∷ ds) = by ((d == 34) || (d == 92)) refl (none_quoted ds)
  where
    by : (x : Bool) → ((d == 34) || (d == 92)) ≡ x → read_entity (quoted ds) ≡ None →
        read_entity (cond x (92 ∷ d ∷ escaped ds) (d ∷ escaped ds) ++ codes "\"") ≡ None
    by true e f =
        λ i. with_byte 92 (with_byte d (f i) (none_first d (quoted ds) (not_colon d e) i)) (none_first 92 (d ∷
        quoted ds) refl i)
    by false e f = λ i. with_byte d (f i) (before_one d ds i)

-- the id comes back
nonempty : (id : Text) → (b : ℕ) × (bs : Text) × (quoted id ≡ b ∷ bs)
unfolding escaped
nonempty [] = (34, [], refl)
nonempty (d ∷ ds) = by ((d == 34) || (d == 92))
  where
    by : (x : Bool) → (b : ℕ) × (bs : Text) × ((cond x (92 ∷ d ∷ escaped ds) (d ∷ escaped ds) ++ codes "\"") ≡ b ∷ bs)
    by true = (92, d ∷ quoted ds, refl)
    by false = (d, quoted ds, refl)

plain_byte : (d : ℕ) (bs : Text) (c : ℕ) (cs : Text) → bs ≡ c ∷ cs → (d == 92) ≡ false → unquoted false (d ∷ bs) ≡ d ∷
    unquoted false bs
unfolding unquoted
plain_byte d bs c cs e f =
    ap (λ x. unquoted false (d ∷ x)) e ∙ ap (λ x. cond x (unquoted true (c ∷ cs)) (d ∷ unquoted false (c ∷ cs))) f ∙
    ap (λ x. d ∷ unquoted false x) (sym e)

unquoted_quoted : (id : Text) → unquoted false (quoted id) ≡ id
unfolding escaped unquoted
unquoted_quoted [] = refl
unquoted_quoted (d ∷ ds) = by ((d == 34) || (d == 92)) refl (unquoted_quoted ds)
  where
    by : (x : Bool) → ((d == 34) || (d == 92)) ≡ x → unquoted false (quoted ds) ≡ ds →
        unquoted false (cond x (92 ∷ d ∷ escaped ds) (d ∷ escaped ds) ++ codes "\"") ≡ d ∷ ds
    by true e f = ap (λ x. d ∷ x) f
    by false e f =
        plain_byte d (quoted ds) (nonempty ds).0 (nonempty ds).1 (nonempty ds).2 (or_parts _ _ e).1 ∙
        ap (λ x. d ∷ x) f

-- ---- the whole text

id_found : (bs : Text) (c : ℕ) (cs : Text) → bs ≡ c ∷ cs → id_here (58 ∷ 58 ∷ 34 ∷ bs) ≡ Some (unquoted false bs)
unfolding id_here
id_found bs c cs e = ap (λ x. id_here (58 ∷ 58 ∷ 34 ∷ x)) e ∙ ap (λ x. Some (unquoted false x)) (sym e)

-- after an empty type
read_id : (id : Text) → read_entity (58 ∷ 58 ∷ 34 ∷ quoted id) ≡ Some record { type_name = []; id = id }
unfolding read_entity with_byte
read_id id =
    (λ i. with_byte 58 (with_byte 58 (with_byte 34 (none_quoted id i) (none_first 34 (quoted id) refl i))
    (none_second 58 34 (quoted id) refl i)) (id_found (quoted id) (nonempty id).0 (nonempty id).1
    (nonempty id).2 i))
    ∙ ap (λ x. Some record { type_name = []; id = x }) (unquoted_quoted id)

read_printed : (type_name id : Text) → read_entity (type_name ++ (58 ∷ 58 ∷ 34 ∷
    quoted id)) ≡ Some record { type_name = type_name; id = id }
unfolding read_entity with_byte
read_printed [] id = read_id id
read_printed (b ∷ bs) id =
    ap (λ o. with_byte b o (id_here (b ∷ (bs ++ (58 ∷ 58 ∷ 34 ∷ quoted id))))) (read_printed bs id)

pub come_back : (e : EntityName) → read_entity (printed_entity e) ≡ Some e
come_back e = read_printed e.type_name e.id

same : (d e : EntityName) → Some d ≡ Some e → d ≡ e
same d e f = cc

pub injective : (d e : EntityName) → printed_entity d ≡ printed_entity e → d ≡ e
injective d e f = same d e (sym (come_back d) ∙ ap read_entity f ∙ come_back e)
