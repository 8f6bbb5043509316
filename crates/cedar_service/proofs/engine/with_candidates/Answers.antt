use Rattle.std.proofs.Common.{◌≡◌, ap, sym, subst, Vec, Global, map}
use Rattle.cedar_layers.specs.declared.policies.entities.Entities.{Entities}
use Rattle.cedar_names.specs.declared.names.EntityUID.{EntityUID}
use Rattle.cedar_names.specs.Names.{uid_name}
use Rattle.cedar_text_parser.specs.declared.policies.ParsedPolicies.{ParsedPolicies}
use Rattle.cedar_service.specs.Candidates.{AreCandidates}
use Rattle.cedar_service.specs.Engines.{read_policies, policies_of, entities_of, candidates_of}
use Rattle.cedar_service.proofs.Composed.{of_three}
use Rattle.cedar_service.proofs.engine.with_candidates.Goals as goal

pub returns-in-Ok-clause-candidates : goal.returns-in-Ok-clause-candidates
returns-in-Ok-clause-candidates c =
    let policies = c.args.parsed.policies in
    of_three (λ e. read_policies e ≡ c.args.parsed) (λ e. entities_of e ≡ c.args.store) (λ e. e.candidates ≡ c.in-Ok.sought)
    (λ e. AreCandidates (policies_of e) (entities_of e) (candidates_of e))
    (λ e read same listed.
    subst (λ (p : ParsedPolicies). AreCandidates p.policies (entities_of e) (candidates_of e)) (sym read)
    (subst (λ (s : Entities). AreCandidates policies s (candidates_of e)) (sym same)
    (subst (λ (us : Vec EntityUID Global). AreCandidates policies c.args.store (map uid_name us.items)) (sym listed) (record {
      has = c.in-Ok.ensures.has;
      once = c.in-Ok.ensures.once;
    }))))
    c.with_version.result c.with_version.ensures.policies c.with_version.ensures.entities c.with_version.ensures.candidates
