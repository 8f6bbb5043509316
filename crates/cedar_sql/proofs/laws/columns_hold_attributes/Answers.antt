use Rattle.cedar_sql.proofs.Filling.{longs_are_held, texts_are_held, absent_is_null}
use Rattle.cedar_sql.proofs.laws.columns_hold_attributes.Goals as goal

pub returns-clause-longs : goal.returns-clause-longs
returns-clause-longs c = longs_are_held

pub returns-clause-texts : goal.returns-clause-texts
returns-clause-texts c = texts_are_held

pub returns-clause-absent : goal.returns-clause-absent
returns-clause-absent c = absent_is_null
