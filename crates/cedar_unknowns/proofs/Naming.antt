-- What a map names is what is listed.
use Rattle.std.specs.Prelude.{◌≡◌, Bool, true, false, ◌||◌, List, [], ◌∷◌, ◌++◌, Option, Some, None, is_some, codes}
use Rattle.std.proofs.Common.{refl, sym, ap, subst, ◌∙◌}
use Rattle.cedar_model.specs.Terms.{Text, EntityName, Term, literal, variable, slot, unknown, if_then_else}
use Rattle.cedar_model.specs.Terms.{both, either, unary, binary, call, get_attribute, has_attribute, extended_has, like}
use Rattle.cedar_model.specs.Terms.{is_of_type, set_of, record_of, Terms, no_terms, one_term, Fields, no_fields}
use Rattle.cedar_model.specs.Terms.{one_field}
use Rattle.cedar_model.specs.Terms.{principal, action, resource}
use Rattle.cedar_model.specs.World.{Functions}
use Rattle.cedar_model.specs.Settings.{Entry, known_entry, unknown_entry, ContextPart, absent_context, known_context}
use Rattle.cedar_model.specs.Settings.{residual_context, RequestPart, entry_part, context_value, variable_part}
use Rattle.cedar_model.specs.Settings.{printed_entity}
use Rattle.cedar_model.specs.Printing.{read_entity}
use Rattle.cedar_model.specs.Agreement.{HoldsOfEach, HoldsOfEachAt, NeverAsks}
use Rattle.cedar_model.specs.Responses.{Reported, reported_true, reported_false, reported_residual, Row}
use Rattle.cedar_model.specs.Chains.{Mapping, Response}
use Rattle.cedar_model.specs.Progress.{IsNamed, AreNamed, AreNamedAt, EntryIsNamed, ContextIsNamed, ReportIsNamed}
use Rattle.cedar_model.specs.Progress.{RowsAreNamed, NamesAll}
use Rattle.cedar_laws.proofs.Faithfulness.{value_known}
use Rattle.cedar_unknowns.specs.Occurrences.{Asked, occurrences, occurrences_each, occurrences_at, part_occurrences}
use Rattle.cedar_unknowns.specs.Occurrences.{request_occurrences, report_occurrences, row_occurrences, asked_eq}
use Rattle.cedar_unknowns.specs.Occurrences.{is_listed, each_once}
use Rattle.cedar_unknowns.specs.Entities.{entity_asked, entities_asked, entity_before, others_asked, asked_unless}
use Rattle.cedar_unknowns.specs.Naming as naming
use Rattle.cedar_unknowns.specs.Naming.{NamesEach, NamesEachEntity, NamesListed, CallsNoneThatAsks}
use Rattle.cedar_unknowns.specs.Naming.{ContextCallsNoneThatAsks, ReportCallsNoneThatAsks, RowsCallNoneThatAsks}
use Rattle.cedar_unknowns.proofs.Listed.{asked_eq-decides}
use Rattle.cedar_unknowns.proofs.Once.{exactly}
use Rattle.cedar_unknowns.proofs.Standing.{is_for}

-- a disjunction that is true
either_true : (p q : Bool) → (p || q) ≡ true → (P : Type 0) → (p ≡ true → P) → (q ≡ true → P) → P
either_true true q h P f g = f refl
either_true false q h P f g = g h

or_left : (p q : Bool) → p ≡ true → (p || q) ≡ true
or_left true q h = refl
or_left false q h = absurd (cc)

or_right : (p q : Bool) → q ≡ true → (p || q) ≡ true
or_right true q h = refl
or_right false q h = h

module _ (m : Mapping) where
  abbrev Named : Asked → Type 0
  Named a = is_some (m a.0) ≡ true

  -- ---- what is named is what is listed

  named_listed : (bs : List Asked) → NamesEach m bs → (a : Asked) → is_listed a bs ≡ true → Named a
  unfolding is_listed
  named_listed [] h a l = absurd (cc)
  named_listed (b ∷ bs) h a l =
      either_true (asked_eq a b) (is_listed a bs) l (Named a)
      (λ e. subst Named (sym ((asked_eq-decides a b).0 e)) h.0) (named_listed bs h.1 a)

  listed_named : (bs : List Asked) → ((a : Asked) → is_listed a bs ≡ true → Named a) → NamesEach m bs
  unfolding is_listed
  listed_named [] h = tt
  listed_named (b ∷ bs) h = (
    h b (or_left (asked_eq b b) (is_listed b bs) ((asked_eq-decides b b).1 refl)),
    listed_named bs (λ a l. h a (or_right (asked_eq a b) (is_listed a bs) l)),
  )

  -- unknowns that are listed once each
  once_named : (bs : List Asked) → NamesEach m bs → NamesEach m (each_once bs)
  once_named bs h = listed_named (each_once bs) (λ a l. named_listed bs h a (sym (exactly bs a) ∙ l))

  named_once : (bs : List Asked) → NamesEach m (each_once bs) → NamesEach m bs
  named_once bs h = listed_named bs (λ a l. named_listed (each_once bs) h a (exactly bs a ∙ l))

  -- ---- those that stand for entities, and the others

  entity_named : (a : Asked) (e : EntityName) → entity_asked a ≡ Some e → a.0 ≡ printed_entity e
  entity_named a e h = ap (λ (x : Asked). x.0) (is_for a (read_entity a.0) e h)

  others_by : (a : Asked) (o : Option EntityName) (bs : List Asked) → Named a → NamesEach m bs
      → NamesEach m (asked_unless o a bs)
  others_by a None bs h k = (h, k)
  others_by a (Some e) bs h k = k

  entities_by : (a : Asked) (o : Option EntityName) → entity_asked a ≡ o → (es : List EntityName) → Named a
      → NamesEachEntity m es → NamesEachEntity m (entity_before o es)
  entities_by a None is es h k = k
  entities_by a (Some e) is es h k = (subst (λ n. is_some (m n) ≡ true) (entity_named a e is) h, k)

  others_named : (bs : List Asked) → NamesEach m bs → NamesEach m (others_asked bs)
  others_named [] h = tt
  others_named (b ∷ bs) h = others_by b (entity_asked b) (others_asked bs) h.0 (others_named bs h.1)

  entities_named : (bs : List Asked) → NamesEach m bs → NamesEachEntity m (entities_asked bs)
  entities_named [] h = tt
  entities_named (b ∷ bs) h = entities_by b (entity_asked b) refl (entities_asked bs) h.0 (entities_named bs h.1)

  -- one unknown of both lists, and what is behind it
  both_by : (a : Asked) (o : Option EntityName) → entity_asked a ≡ o → (bs : List Asked) (es : List EntityName)
      → NamesEach m (asked_unless o a bs) → NamesEachEntity m (entity_before o es)
      → Named a × NamesEach m bs × NamesEachEntity m es
  both_by a None is bs es h k = (h.0, h.1, k)
  both_by a (Some e) is bs es h k = (subst (λ n. is_some (m n) ≡ true) (sym (entity_named a e is)) k.0, h, k.1)

  both_named : (bs : List Asked) → NamesEach m (others_asked bs) → NamesEachEntity m (entities_asked bs)
      → NamesEach m bs
  both_named [] h k = tt
  both_named (b ∷ bs) h k =
      let z = both_by b (entity_asked b) refl (others_asked bs) (entities_asked bs) h k in
      (z.0, both_named bs z.1 z.2)

  pub to_lists : (all : List Asked) → NamesEach m all → NamesListed m all
  to_lists all h =
      let once : NamesEach m (each_once all) = once_named all h in
      record {
        unknowns_are_named = others_named (each_once all) once;
        entities_are_named = entities_named (each_once all) once;
      }

  pub of_lists : (all : List Asked) → NamesListed m all → NamesEach m all
  of_lists all h = named_once all (both_named (each_once all) h.unknowns_are_named h.entities_are_named)

  -- ---- one list behind another

  joined_named : (some bs : List Asked) → NamesEach m some → NamesEach m bs → NamesEach m (some ++ bs)
  joined_named [] bs h k = k
  joined_named (a ∷ some) bs h k = (h.0, joined_named some bs h.1 k)

  parts_named : (some bs : List Asked) → NamesEach m (some ++ bs) → NamesEach m some × NamesEach m bs
  parts_named [] bs h = (tt, h)
  parts_named (a ∷ some) bs h = let z = parts_named some bs h.1 in ((h.0, z.0), z.1)

module _ (ans : Functions) (m : Mapping) where
  -- ---- expressions

  mutual
    term_named : (t : Term) → NamesEach m (occurrences t) → CallsNoneThatAsks ans t → IsNamed ans m t
    term_named (literal l) h k = tt
    term_named (variable v) h k = tt
    term_named (slot s) h k = tt
    term_named (unknown n t) h k = h.0
    term_named (if_then_else c a b) h k =
        let z = parts_named m (occurrences c) (occurrences a ++ occurrences b) h in
        let y = parts_named m (occurrences a) (occurrences b) z.1 in
        (term_named c z.0 k.0, term_named a y.0 k.1, term_named b y.1 k.2)
    term_named (both a b) h k =
        let z = parts_named m (occurrences a) (occurrences b) h in (term_named a z.0 k.0, term_named b z.1 k.1)
    term_named (either a b) h k =
        let z = parts_named m (occurrences a) (occurrences b) h in (term_named a z.0 k.0, term_named b z.1 k.1)
    term_named (unary op a) h k = term_named a h k
    term_named (binary op a b) h k =
        let z = parts_named m (occurrences a) (occurrences b) h in (term_named a z.0 k.0, term_named b z.1 k.1)
    term_named (call f ts) h k = (k.0, each_named ts h k.1)
    term_named (get_attribute a l) h k = term_named a h k
    term_named (has_attribute a l) h k = term_named a h k
    term_named (extended_has a l ls) h k = term_named a h k
    term_named (like a p) h k = term_named a h k
    term_named (is_of_type a t) h k = term_named a h k
    term_named (set_of ts) h k = each_named ts h k
    term_named (record_of fs) h k = at_named fs h k

    each_named : (ts : Terms) → NamesEach m (occurrences_each ts) → HoldsOfEach (λ n o. Unit {0}) (NeverAsks ans) ts
        → AreNamed ans m ts
    each_named no_terms h k = tt
    each_named (one_term t ts) h k =
        let z = parts_named m (occurrences t) (occurrences_each ts) h in (term_named t z.0 k.0, each_named ts z.1 k.1)

    at_named : (fs : Fields) → NamesEach m (occurrences_at fs) → HoldsOfEachAt (λ n o. Unit {0}) (NeverAsks ans) fs
        → AreNamedAt ans m fs
    at_named no_fields h k = tt
    at_named (one_field l t fs) h k =
        let z = parts_named m (occurrences t) (occurrences_at fs) h in (term_named t z.0 k.0, at_named fs z.1 k.1)

  mutual
    named_term : (t : Term) → IsNamed ans m t → NamesEach m (occurrences t) × CallsNoneThatAsks ans t
    named_term (literal l) h = (tt, tt)
    named_term (variable v) h = (tt, tt)
    named_term (slot s) h = (tt, tt)
    named_term (unknown n t) h = ((h, tt), tt)
    named_term (if_then_else c a b) h =
        let x = named_term c h.0 in
        let y = named_term a h.1 in
        let z = named_term b h.2 in
        let behind = joined_named m (occurrences a) (occurrences b) y.0 z.0 in
        (joined_named m (occurrences c) (occurrences a ++ occurrences b) x.0 behind, (x.1, y.1, z.1))
    named_term (both a b) h =
        let x = named_term a h.0 in
        let y = named_term b h.1 in
        (joined_named m (occurrences a) (occurrences b) x.0 y.0, (x.1, y.1))
    named_term (either a b) h =
        let x = named_term a h.0 in
        let y = named_term b h.1 in
        (joined_named m (occurrences a) (occurrences b) x.0 y.0, (x.1, y.1))
    named_term (unary op a) h = named_term a h
    named_term (binary op a b) h =
        let x = named_term a h.0 in
        let y = named_term b h.1 in
        (joined_named m (occurrences a) (occurrences b) x.0 y.0, (x.1, y.1))
    named_term (call f ts) h = let z = named_each ts h.1 in (z.0, (h.0, z.1))
    named_term (get_attribute a l) h = named_term a h
    named_term (has_attribute a l) h = named_term a h
    named_term (extended_has a l ls) h = named_term a h
    named_term (like a p) h = named_term a h
    named_term (is_of_type a t) h = named_term a h
    named_term (set_of ts) h = named_each ts h
    named_term (record_of fs) h = named_at fs h

    named_each : (ts : Terms) → AreNamed ans m ts
        → NamesEach m (occurrences_each ts) × HoldsOfEach (λ n o. Unit {0}) (NeverAsks ans) ts
    named_each no_terms h = (tt, tt)
    named_each (one_term t ts) h =
        let x = named_term t h.0 in
        let y = named_each ts h.1 in
        (joined_named m (occurrences t) (occurrences_each ts) x.0 y.0, (x.1, y.1))

    named_at : (fs : Fields) → AreNamedAt ans m fs
        → NamesEach m (occurrences_at fs) × HoldsOfEachAt (λ n o. Unit {0}) (NeverAsks ans) fs
    named_at no_fields h = (tt, tt)
    named_at (one_field l t fs) h =
        let x = named_term t h.0 in
        let y = named_at fs h.1 in
        (joined_named m (occurrences t) (occurrences_at fs) x.0 y.0, (x.1, y.1))

  -- ---- requests

  entry_named : (name : Text) (e : Entry) → NamesEach m (part_occurrences (entry_part e name))
      → EntryIsNamed ans m name e
  unfolding entry_part
  entry_named name (known_entry d) h = tt
  entry_named name (unknown_entry t) h = h.0

  named_entry : (name : Text) (e : Entry) → EntryIsNamed ans m name e
      → NamesEach m (part_occurrences (entry_part e name))
  unfolding entry_part
  named_entry name (known_entry d) h = tt
  named_entry name (unknown_entry t) h = (h, tt)

  context_named : (c : ContextPart) → NamesEach m (part_occurrences (context_value c)) → ContextCallsNoneThatAsks ans c
      → ContextIsNamed ans m c
  unfolding context_value
  context_named absent_context h k = h.0
  context_named (known_context fs) h k = tt
  context_named (residual_context fs) h k = at_named fs h k

  named_context : (c : ContextPart) → ContextIsNamed ans m c
      → NamesEach m (part_occurrences (context_value c)) × ContextCallsNoneThatAsks ans c
  unfolding context_value
  named_context absent_context h = ((h, tt), tt)
  named_context (known_context fs) h = (tt, tt)
  named_context (residual_context fs) h = named_at fs h

  -- those of each variable, of all that a request's variables answer
  request_named : (r : RequestPart) → NamesEach m (request_occurrences r)
      → NamesEach m (part_occurrences (entry_part r.principal_entry (codes "principal")))
      × NamesEach m (part_occurrences (entry_part r.action_entry (codes "action")))
      × NamesEach m (part_occurrences (entry_part r.resource_entry (codes "resource")))
      × NamesEach m (part_occurrences (context_value r.context_part))
  unfolding variable_part
  request_named r h =
      let one = parts_named m (part_occurrences (variable_part r principal)) _ h in
      let two = parts_named m (part_occurrences (variable_part r action)) _ one.1 in
      let three = parts_named m (part_occurrences (variable_part r resource)) _ two.1 in
      (one.0, two.0, three.0, three.1)

  named_request : (r : RequestPart) → NamesEach m (part_occurrences (entry_part r.principal_entry (codes "principal")))
      → NamesEach m (part_occurrences (entry_part r.action_entry (codes "action")))
      → NamesEach m (part_occurrences (entry_part r.resource_entry (codes "resource")))
      → NamesEach m (part_occurrences (context_value r.context_part)) → NamesEach m (request_occurrences r)
  unfolding variable_part
  named_request r p a s c =
      joined_named m (part_occurrences (variable_part r principal)) _ p
      (joined_named m (part_occurrences (variable_part r action)) _ a
      (joined_named m (part_occurrences (variable_part r resource)) _ s c))

  -- ---- rows

  report_named : (o : Reported) → NamesEach m (report_occurrences o) → ReportCallsNoneThatAsks ans o
      → ReportIsNamed ans m o
  report_named reported_true h k = tt
  report_named (reported_false e) h k = tt
  report_named (reported_residual t) h k = term_named t h k

  named_report : (o : Reported) → ReportIsNamed ans m o
      → NamesEach m (report_occurrences o) × ReportCallsNoneThatAsks ans o
  named_report reported_true h = (tt, tt)
  named_report (reported_false e) h = (tt, tt)
  named_report (reported_residual t) h = named_term t h

  rows_named : (rs : List Row) → NamesEach m (row_occurrences rs) → RowsCallNoneThatAsks ans rs → RowsAreNamed ans m rs
  rows_named [] h k = tt
  rows_named (r ∷ rs) h k =
      let z = parts_named m (report_occurrences r.reported) (row_occurrences rs) h in
      (report_named r.reported z.0 k.0, rows_named rs z.1 k.1)

  named_rows : (rs : List Row) → RowsAreNamed ans m rs → NamesEach m (row_occurrences rs) × RowsCallNoneThatAsks ans rs
  named_rows [] h = (tt, tt)
  named_rows (r ∷ rs) h =
      let x = named_report r.reported h.0 in
      let y = named_rows rs h.1 in
      (joined_named m (report_occurrences r.reported) (row_occurrences rs) x.0 y.0, (x.1, y.1))

  -- ---- responses

  all_named : (r : Response) → NamesListed m (naming.response_occurrences r) → naming.ResponseCallsNoneThatAsks ans r
      → naming.HasKnownValues ans m → NamesAll ans m r
  all_named r h k known =
      let z = parts_named m (request_occurrences r.request) (row_occurrences r.rows)
      (of_lists m (naming.response_occurrences r) h) in
      let y = request_named r.request z.0 in
      record {
        principal_is_named = entry_named (codes "principal") r.request.principal_entry y.0;
        action_is_named = entry_named (codes "action") r.request.action_entry y.1;
        resource_is_named = entry_named (codes "resource") r.request.resource_entry y.2;
        context_is_named = context_named r.request.context_part y.3 k.context_calls_none;
        rows_are_named = rows_named r.rows z.1 k.rows_call_none;
        values_are_known = known;
      }

  named_all : (r : Response) → NamesAll ans m r → NamesListed m (naming.response_occurrences r)
      × naming.ResponseCallsNoneThatAsks ans r × naming.HasKnownValues ans m
  named_all r h =
      let c = named_context r.request.context_part h.context_is_named in
      let z = named_rows r.rows h.rows_are_named in
      let y : NamesEach m (request_occurrences r.request) = named_request r.request
      (named_entry (codes "principal") r.request.principal_entry h.principal_is_named)
      (named_entry (codes "action") r.request.action_entry h.action_is_named)
      (named_entry (codes "resource") r.request.resource_entry h.resource_is_named) c.0 in (
        to_lists m (naming.response_occurrences r)
            (joined_named m (request_occurrences r.request) (row_occurrences r.rows) y z.0),
        record { context_calls_none = c.1; rows_call_none = z.1 },
        h.values_are_known,
      )

pub names_all_by_lists : naming.NamesAllByLists
names_all_by_lists ans m r = (named_all ans m r, λ h. all_named ans m r h.0 h.1 h.2)

-- ---- where no function asks

module _ (ans : Functions) (never : (f : Text) → NeverAsks ans f) where
  mutual
    calls_none : (t : Term) → CallsNoneThatAsks ans t
    calls_none (literal l) = tt
    calls_none (variable v) = tt
    calls_none (slot s) = tt
    calls_none (unknown n t) = tt
    calls_none (if_then_else c a b) = (calls_none c, calls_none a, calls_none b)
    calls_none (both a b) = (calls_none a, calls_none b)
    calls_none (either a b) = (calls_none a, calls_none b)
    calls_none (unary op a) = calls_none a
    calls_none (binary op a b) = (calls_none a, calls_none b)
    calls_none (call f ts) = (never f, each_calls_none ts)
    calls_none (get_attribute a l) = calls_none a
    calls_none (has_attribute a l) = calls_none a
    calls_none (extended_has a l ls) = calls_none a
    calls_none (like a p) = calls_none a
    calls_none (is_of_type a t) = calls_none a
    calls_none (set_of ts) = each_calls_none ts
    calls_none (record_of fs) = at_calls_none fs

    each_calls_none : (ts : Terms) → HoldsOfEach (λ n o. Unit {0}) (NeverAsks ans) ts
    each_calls_none no_terms = tt
    each_calls_none (one_term t ts) = (calls_none t, each_calls_none ts)

    at_calls_none : (fs : Fields) → HoldsOfEachAt (λ n o. Unit {0}) (NeverAsks ans) fs
    at_calls_none no_fields = tt
    at_calls_none (one_field l t fs) = (calls_none t, at_calls_none fs)

  context_calls_none : (c : ContextPart) → ContextCallsNoneThatAsks ans c
  context_calls_none absent_context = tt
  context_calls_none (known_context fs) = tt
  context_calls_none (residual_context fs) = at_calls_none fs

  report_calls_none : (o : Reported) → ReportCallsNoneThatAsks ans o
  report_calls_none reported_true = tt
  report_calls_none (reported_false e) = tt
  report_calls_none (reported_residual t) = calls_none t

  rows_call_none : (rs : List Row) → RowsCallNoneThatAsks ans rs
  rows_call_none [] = tt
  rows_call_none (r ∷ rs) = (report_calls_none r.reported, rows_call_none rs)

pub listed_names_are_all : naming.ListedNamesAreAll
listed_names_are_all ans never m none r h =
    all_named ans m r h
    (record {
      context_calls_none = context_calls_none ans never r.request.context_part;
      rows_call_none = rows_call_none ans never r.rows;
    })
    (λ n v e. value_known ans v (none n v e))
