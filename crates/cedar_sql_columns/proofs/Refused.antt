-- How refusals are passed on.
use Rattle.std.proofs.Common.{◌∷◌, List, Err, sym, ap, ◌∙◌, subst}
use Rattle.cedar_sql_columns.specs.declared.errors.ColumnsError.{ColumnsError}
use Rattle.cedar_sql_columns.specs.declared.errors.ColumnsError.TheVariants as errors
use Rattle.cedar_sql_columns.specs.declared.errors.RefusalReason.{RefusalReason}
use Rattle.cedar_sql_columns.specs.Paths.{Step}
use Rattle.cedar_sql_columns.specs.Refusals.{Said, under, made_of, and_then, IsRefusal, IsRefusedAt, IsUnder, IsMemory}

pub refused_at : (T : Type 0) (path : List Step) (r : RefusalReason) (e : ColumnsError) → IsRefusedAt path r e → IsRefusal {T = T} (Err (record { path = path; reason = r })) e
refused_at T path r errors.Syntax h = h
refused_at T path r errors.DuplicateKey h = h
refused_at T path r (errors.Refused p t) h = λ i. Err (record { path = sym h.0 i; reason = sym h.1 i })
refused_at T path r (errors.Memory m) h = tt

pub memory_refused : {T : Type 0} (said : Said T) (e : ColumnsError) → IsMemory e → IsRefusal said e
memory_refused said errors.Syntax h = h
memory_refused said errors.DuplicateKey h = h
memory_refused said (errors.Refused p t) h = absurd h
memory_refused said (errors.Memory m) h = tt

pub refused_under : {T : Type 0} (s : Step) (said : Said T) (d e : ColumnsError) → IsRefusal said d → IsUnder s d e → IsRefusal (under s said) e
refused_under s said d errors.Syntax h u = subst (λ (x : ColumnsError). IsRefusal said x) u h
refused_under s said d errors.DuplicateKey h u = subst (λ (x : ColumnsError). IsRefusal said x) u h
refused_under s said errors.Syntax (errors.Refused q t) h u = absurd u
refused_under s said errors.DuplicateKey (errors.Refused q t) h u = absurd u
refused_under s said (errors.Refused p r) (errors.Refused q t) h u = ap (under s) h ∙ (λ i. Err (record { path = sym u.0 i; reason = sym u.1 i }))
refused_under s said (errors.Memory m) (errors.Refused q t) h u = absurd u
refused_under s said d (errors.Memory m) h u = tt

pub refused_made : {T U : Type 0} (f : T → U) (said : Said T) (e : ColumnsError) → IsRefusal said e → IsRefusal (made_of f said) e
refused_made f said errors.Syntax h = h
refused_made f said errors.DuplicateKey h = h
refused_made f said (errors.Refused p t) h = ap (made_of f) h
refused_made f said (errors.Memory m) h = tt

pub refused_then : {T U : Type 0} (f : T → Said U) (said : Said T) (e : ColumnsError) → IsRefusal said e → IsRefusal (and_then f said) e
refused_then f said errors.Syntax h = h
refused_then f said errors.DuplicateKey h = h
refused_then f said (errors.Refused p t) h = ap (and_then f) h
refused_then f said (errors.Memory m) h = tt

pub ruleset refusals = (refused_at, memory_refused, refused_under, refused_made, refused_then)
