use Rattle.gixobj_streams.proofs.Errors.{fails_as_sink_of_error}
use Rattle.gixobj_encode.proofs.laws.write_error_implies_sink_error.Goals as goal

pub returns : goal.returns
returns g c = λ before after error. fails_as_sink_of_error (g.T.WriteTo.rejects c.args.object.now) before after (g.T.WriteTo.encoding c.args.object.now) error
