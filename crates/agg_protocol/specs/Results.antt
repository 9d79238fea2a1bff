-- The answers of the aggregate functions in the code (PostgreSQL 17, 9.21 Aggregate Functions).
use Rattle.grouping_model.specs.Datum as datum
use Rattle.grouping_model.specs.Aggregates as model
use Rattle.grouping_model.specs.Aggregates.{Outcome, Plain}
use Rattle.agg_protocol.specs.declared.ResultValue.{ResultValue}
use Rattle.agg_protocol.specs.declared.ResultValue.TheVariants.{Null, Bigint, Numeric, Boolean, Text}

-- the answer that a result value stands for, without where its text lies in memory (own)
abbrev pub outcome_of : ResultValue → Outcome
outcome_of Null = Plain datum.Null
outcome_of (Bigint z) = Plain (datum.Bigint z)
outcome_of (Numeric z) = model.Numeric z
outcome_of (Boolean b) = Plain (datum.Boolean b)
outcome_of (Text text) = Plain (datum.Text text.now)
