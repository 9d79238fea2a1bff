-- What a clause sees of the requests of the code.
use Rattle.script_commands.specs.Commands as ask
use Rattle.script_commands.specs.declared.request.Request.{Request}
use Rattle.script_commands.specs.declared.request.Request.TheVariants as r

-- a request without where its fields lie in memory
abbrev pub request_view : Request → ask.Request
request_view (r.Columns text) = ask.Columns text.now
request_view (r.Query text) = ask.Query text.now
request_view (r.Limit bytes) = ask.Limit bytes
request_view (r.Replica name) = ask.Replica name.now
request_view (r.Feed name origin number told) = ask.Feed name.now origin.now number.now told
request_view (r.Known name) = ask.Known name.now
request_view (r.Answer name) = ask.Answer name.now
request_view (r.Merge into from) = ask.Merge into.now from.now
request_view (r.Save name saved) = ask.Save name.now saved.now
request_view (r.Load name saved) = ask.Load name.now saved.now
request_view r.Unknown = ask.Unknown
