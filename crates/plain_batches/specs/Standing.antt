-- Where a scan of lines stands. All of this is our own.
use Rattle.csv.specs.declared.parser.State.{State}
use Rattle.csv.specs.declared.parser.State.TheVariants as st
use Rattle.plain_batches.specs.declared.blank.Standing.{Standing}
use Rattle.plain_batches.specs.declared.blank.Standing.TheVariants.{AtRecord, AtField, InField, InQuotes, BehindQuote, BehindReturn}

-- the state of csv's machine
abbrev pub state_of : Standing → State
state_of AtRecord = st.StartRecord
state_of AtField = st.StartField
state_of InField = st.InField
state_of InQuotes = st.InQuoted
state_of BehindQuote = st.AfterQuote
state_of BehindReturn = st.AfterCr
