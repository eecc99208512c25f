use Rattle.gixobj_listings.proofs.history.logged.Goals as goal

pub unreachable-requires : goal.unreachable-requires
unreachable-requires c =
    let (name, email, time, actor) = c.requires in
    (c.in-Err.ensures {u = tt}).error.1 name email time actor
