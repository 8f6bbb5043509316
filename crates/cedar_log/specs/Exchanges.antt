-- Which lines tell what a response hands out.
use Rattle.std.specs.Prelude.{◌≡◌, ◌⊎◌, ◌&&◌, ◌==◌, Bool, ℕ, zero, suc, List, [], ◌∷◌, ◌++◌, Option, Some, None, if◌then◌else◌, bytes_eq, codes}
use Rattle.std.specs.Str.{IsUtf8}
use Rattle.json.specs.Json.{Json, Items, no_items, item, document}
use Rattle.json.specs.Find.{get, as_array}
use Rattle.http.specs.declared.request.Request.{Request}
use Rattle.http.specs.Request.{head_of, body_of}
use Rattle.http_uri.specs.Uri.{uri_path}
use Rattle.http1.specs.Fields.{Header}
use Rattle.http_server.specs.declared.response.Response.{Response}
use Rattle.http_server.specs.Response.{fields_of}
use Rattle.cedar_log.specs.Lines.{Text, json_text, found_text, nth, request_text, stamp_text, decision_line, other_line}

-- ---- the lines of what is asked and answered

-- one evaluation
abbrev pub single_text : Text → Json → Json → Text
single_text stamp j a = decision_line stamp (request_text None j) (json_text a)

-- an item of several, with the members of the whole document where it has none; what is missing is `null`
abbrev pub item_text : Text → Json → Option Json → Option Json → Text
item_text stamp all asked answer = decision_line stamp (request_text asked all) (found_text answer)

-- so many first ones
unfoldable pub items_text : Text → Json → Option Json → Json → ℕ → Text
items_text stamp all asked answers zero = []
items_text stamp all asked answers (suc n) =
    items_text stamp all asked answers n ++ item_text stamp all (nth n asked) (nth n (Some answers))

abbrev pub count : Items → ℕ
count no_items = 0
count (item j js) = suc (count js)

-- one for each answer, if that is a list
abbrev pub listed_text : Text → Json → Json → Json → Option Items → Text
listed_text stamp j a answers None = single_text stamp j a
listed_text stamp j a answers (Some js) = items_text stamp j (get (codes "evaluations") j) answers (count js)

abbrev pub several_text : Text → Json → Json → Option Json → Text
several_text stamp j a None = single_text stamp j a
several_text stamp j a (Some answers) = listed_text stamp j a answers (as_array answers)

-- what is asked at this path, and answered
abbrev pub exchange_text : Text → Text → Json → Json → Text
exchange_text stamp path j a =
    if bytes_eq path (codes "/access/v1/evaluation") then single_text stamp j a else (
    if bytes_eq path (codes "/access/v1/evaluations") then several_text stamp j a (get (codes "evaluations") a) else (
    if bytes_eq path (codes "/v1/authorize") then decision_line stamp (json_text j) (json_text a) else
    other_line stamp path (json_text j) (json_text a)))

-- ---- over HTTP

-- whether a response hands out what is told: to `POST`, with 200
abbrev pub hands_out : Request (List ℕ) → Response → Bool
hands_out q p = bytes_eq (head_of q).method (codes "POST") && (p.status == 200)

-- the value of the first field of this name
abbrev pub field_named : Text → List Header → Option Text
field_named name [] = None
field_named name (f ∷ fs) = if bytes_eq f.0 name then Some f.1 else field_named name fs

-- what is told of a field's value: nothing, if that is no text
pub data IsShown : Option Text → Option Text → Type 0 where
  no_field : IsShown None None
  shown : (t : Text) → IsShown (Some t) (Some t)
  no_text : (t : Text) → ¬ IsUtf8 t → IsShown (Some t) None

-- the version and the id are those that the response names
pub record IsStamp (p : Response) (stamp : Text) : Type 0 where
  pub version : Option Text
  pub version_is : IsShown (field_named (codes "cedar-version") (fields_of p)) version
  pub id : Option Text
  pub id_is : IsShown (field_named (codes "x-request-id") (fields_of p)) id
  pub stamp_is : stamp ≡ stamp_text version id

-- the lines of what the request asks and the response hands out, whose bodies are JSON
pub record AreLines (q : Request (List ℕ)) (p : Response) (lines : Text) : Type 0 where
  pub stamp : Text
  pub stamp_is : IsStamp p stamp
  pub asked : Json
  pub is_asked : document (body_of q) ≡ Some asked
  pub answered : Json
  pub is_answered : document p.body.items ≡ Some answered
  pub lines_are : lines ≡ exchange_text stamp (uri_path (head_of q).uri) asked answered

-- a body that is no text, or no JSON
abbrev pub IsNoJson : Text → Type 0
IsNoJson body = (¬ IsUtf8 body) ⊎ (document body ≡ None)

-- one of the two bodies is none, so that there is nothing to tell
abbrev pub AreUnread : Request (List ℕ) → Response → Type 0
AreUnread q p = IsNoJson (body_of q) ⊎ IsNoJson p.body.items

-- ---- for private clauses

-- the lines, if there are any, or else that there can be none
abbrev pub AreFound : Request (List ℕ) → Response → Option Text → Type 0
AreFound q p None = AreUnread q p
AreFound q p (Some lines) = AreLines q p lines

-- the lines of what is asked and of an answer, which is JSON
abbrev pub AreLinesFor : Text → Text → Json → Text → Text → Type 0
AreLinesFor stamp path j answer lines =
    (a : Json) × (document answer ≡ Some a) × (lines ≡ exchange_text stamp path j a)

-- the same of a body, which is JSON
abbrev pub AreLinesOf : Text → Text → Text → Text → Text → Type 0
AreLinesOf stamp path body answer lines =
    (j : Json) × (document body ≡ Some j) × AreLinesFor stamp path j answer lines

-- both, or else that the answer is no JSON, or one of the two
abbrev pub AreFoundFor : Text → Text → Json → Text → Option Text → Type 0
AreFoundFor stamp path j answer None = IsNoJson answer
AreFoundFor stamp path j answer (Some lines) = AreLinesFor stamp path j answer lines

abbrev pub AreFoundOf : Text → Text → Text → Text → Option Text → Type 0
AreFoundOf stamp path body answer None = IsNoJson body ⊎ IsNoJson answer
AreFoundOf stamp path body answer (Some lines) = AreLinesOf stamp path body answer lines
