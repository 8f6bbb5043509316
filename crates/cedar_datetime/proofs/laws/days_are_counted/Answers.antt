use Rattle.cedar_datetime.proofs.Days.{epoch, next_day, next_month, next_year}
use Rattle.cedar_datetime.proofs.laws.days_are_counted.Goals as goal

pub returns-clause-epoch : goal.returns-clause-epoch
returns-clause-epoch c = epoch

pub returns-clause-day : goal.returns-clause-day
returns-clause-day c = next_day

pub returns-clause-month : goal.returns-clause-month
returns-clause-month c = next_month

pub returns-clause-year : goal.returns-clause-year
returns-clause-year c = next_year
