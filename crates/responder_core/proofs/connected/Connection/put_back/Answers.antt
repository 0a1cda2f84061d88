-- What is put back stands as before.
use Rattle.responder_core.proofs.PutBack.{put_back}
use Rattle.responder_core.proofs.connected.Connection.put_back.Goals as goal

pub returns : goal.returns
returns c = λ before r h aside stands.
    put_back c.args.id before c.args.session c.args.self.now c.put_back.new.self r h aside (c.put_back.ensures.own before.sessions aside.taken) c.put_back.ensures.others c.put_back.ensures.ended stands
