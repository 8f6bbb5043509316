-- AuthZEN's metadata: where the endpoints are.
use Rattle.std.specs.Prelude.{List, [], ◌∷◌, ◌++◌, codes}
use Rattle.json.specs.Json.{Json, object, string}
use Rattle.json.specs.Print.{print}
use Rattle.json.specs.Tree.{json_tokens}
use Rattle.cedar_json_writer.specs.Trees.{members_of}
use Rattle.cedar_model.specs.Terms.{Text}

-- the endpoint at this path of a service at this URL
abbrev pub at : Text → Text → Json
at url path = string (url ++ path)

-- where the service is, where one evaluation is asked of it, and where several are
abbrev pub evaluations : Text → List (Text × Json)
evaluations url =
    (codes "policy_decision_point", string url)
    ∷ (codes "access_evaluation_endpoint", at url (codes "/access/v1/evaluation"))
    ∷ (codes "access_evaluations_endpoint", at url (codes "/access/v1/evaluations")) ∷ []

-- where it is asked to search for subjects, for actions and for resources
abbrev pub searches : Text → List (Text × Json)
searches url =
    (codes "search_subject_endpoint", at url (codes "/access/v1/search/subject"))
    ∷ (codes "search_action_endpoint", at url (codes "/access/v1/search/action"))
    ∷ (codes "search_resource_endpoint", at url (codes "/access/v1/search/resource")) ∷ []

abbrev pub metadata_json : Text → Json
metadata_json url = object (members_of (evaluations url ++ searches url))

-- the same as text
abbrev pub metadata_text : Text → Text
metadata_text url = print (json_tokens (metadata_json url))
