-- Parts of JSON that is written.
use Rattle.std.proofs.Common.{◌≡◌, refl, sym, ap, subst, ◌∙◌, Bool, true, false, ℕ, List, [], ◌∷◌, ◌++◌, append_assoc, Option, Some, None}
use Rattle.std.proofs.Common.{bytes_eq, arith, ◌+◌}
use Rattle.std.specs.Prelude.{◌≤◌, ⊤, max, if◌then◌else◌, cond}
use Rattle.std.specs.Borrow.{Bor}
use Rattle.json.specs.Json.{Json, null, boolean, number, string, array, object, Members, no_members, member}
use Rattle.json.specs.Find.{get, get_member, later_or}
use Rattle.json.specs.Tree.{depth, members_depth, HasNumbers, MembersHaveNumbers}
use Rattle.json.specs.Value.{members_view, value_view}
use Rattle.json.specs.declared.value.Value.{Value}
use Rattle.json.proofs.Numbered.{HasNumbers-get}
use Rattle.cedar_model.specs.Terms.{Text}
use Rattle.cedar_service.specs.Documents.{IsWritable, is_beside, without, without_beside, with_asked}
use Rattle.cedar_service.specs.Asked.{request_in}

-- ---- without a member

if_numbers : (b : Bool) (l : Text) (j : Json) (ms : Members) → HasNumbers j → MembersHaveNumbers ms
    → MembersHaveNumbers (if b then ms else member l j ms)
if_numbers true l j ms h k = k
if_numbers false l j ms h k = (h, k)

numbers_without : (ms : Members) → MembersHaveNumbers ms → MembersHaveNumbers (without ms)
numbers_without no_members h = h
numbers_without (member l j ms) h = if_numbers (is_beside l) l j (without ms) h.0 (numbers_without ms h.1)

if_depth : (b : Bool) (l : Text) (j : Json) (ms : Members) (n : ℕ) → members_depth ms ≤ n
    → members_depth (if b then ms else member l j ms) ≤ max (depth j) n
if_depth true l j ms n h = omega arith
if_depth false l j ms n h = omega arith

depth_without : (ms : Members) → members_depth (without ms) ≤ members_depth ms
depth_without no_members = omega arith
depth_without (member l j ms) = if_depth (is_beside l) l j (without ms) (members_depth ms) (depth_without ms)

pub writable_without : (j : Json) → IsWritable j → IsWritable (without_beside j)
writable_without null h = h
writable_without (boolean b) h = h
writable_without (number n) h = h
writable_without (string t) h = h
writable_without (array js) h = h
writable_without (object ms) h = record {
  numbers = numbers_without ms h.numbers;
  nests = let less = depth_without ms in let within = h.nests in omega arith;
}

-- ---- a member

abbrev NoDeeper : ℕ → Option Json → Type 0
NoDeeper n None = ⊤
NoDeeper n (Some j) = depth j ≤ n

later_no_deeper : (b : Bool) (j : Json) (n : ℕ) (o : Option Json) → NoDeeper n o
    → NoDeeper (max (depth j) n) (later_or o (cond b (Some j) None))
later_no_deeper b j n (Some i) h = omega arith
later_no_deeper true j n None h = omega arith
later_no_deeper false j n None h = tt

member_no_deeper : (k : Text) (ms : Members) → NoDeeper (members_depth ms) (get_member k ms)
member_no_deeper k no_members = tt
member_no_deeper k (member l j ms) =
    later_no_deeper (bytes_eq l k) j (members_depth ms) (get_member k ms) (member_no_deeper k ms)

one_more : (n : ℕ) (o : Option Json) (j : Json) → NoDeeper n o → o ≡ Some j → depth j ≤ n + 1
one_more n None j h is = absurd (cc)
one_more n (Some i) j h is = subst (λ x. NoDeeper (n + 1) x) is (omega arith)

pub writable_member : (k : Text) (j part : Json) → IsWritable j → get k j ≡ Some part → IsWritable part
writable_member k null part h is = absurd (cc)
writable_member k (boolean b) part h is = absurd (cc)
writable_member k (number n) part h is = absurd (cc)
writable_member k (string t) part h is = absurd (cc)
writable_member k (array js) part h is = absurd (cc)
writable_member k (object ms) part h is = record {
  numbers = HasNumbers-get k (object ms) part h.numbers (sym is);
  nests = let less = one_more (members_depth ms) (get_member k ms) part (member_no_deeper k ms) is in
      let within = h.nests in omega arith;
}

-- ---- members one by one

abbrev pub kept : {A : Type 0} → List (Bor (List ℕ) × Value A) → List (Bor (List ℕ) × Value A)
kept [] = []
kept (m ∷ ms) = if is_beside m.0.now then kept ms else (m ∷ kept ms)

if_kept : {A : Type 0} (b : Bool) (m : Bor (List ℕ) × Value A) (ms : List (Bor (List ℕ) × Value A)) (ns : Members)
    → members_view ms ≡ ns
    → members_view (if b then ms else (m ∷ ms)) ≡ (if b then ns else member m.0.now (value_view m.1) ns)
if_kept true m ms ns h = h
if_kept false m ms ns h = ap (member m.0.now (value_view m.1)) h

pub kept_view : {A : Type 0} (ms : List (Bor (List ℕ) × Value A)) → members_view (kept ms) ≡ without (members_view ms)
kept_view [] = refl
kept_view (m ∷ ms) = if_kept (is_beside m.0.now) m (kept ms) (without (members_view ms)) (kept_view ms)

if_step : {A : Type 0} (b : Bool) (m : Bor (List ℕ) × Value A) (done left : List (Bor (List ℕ) × Value A))
    → (if b then done else (done ++ m ∷ [])) ++ left ≡ done ++ (if b then left else (m ∷ left))
if_step true m done left = refl
if_step false m done left = append_assoc done (m ∷ []) left

pub one_kept : {A : Type 0} (all done left rest after : List (Bor (List ℕ) × Value A))
    (m : Bor (List ℕ) × Value A) → left ≡ m ∷ rest → after ≡ with_asked done m → done ++ kept left ≡ kept all
    → after ++ kept rest ≡ kept all
one_kept all done left rest after m is more h =
    ap (λ ms. ms ++ kept rest) more ∙ if_step (is_beside m.0.now) m done (kept rest)
    ∙ ap (λ ms. done ++ kept ms) (sym is) ∙ h

-- ---- the JSON of a request

pub request_beside : (b : Bool) (j : Json) → b ≡ true → request_in b j ≡ without_beside j
request_beside true j h = refl
request_beside false j h = absurd (cc)

pub request_alone : (b : Bool) (j : Json) → b ≡ false → request_in b j ≡ j
request_alone true j h = absurd (cc)
request_alone false j h = refl
