-- What a plan is asked for.
use Rattle.balancer.specs.declared.request.Request.{Request}
use Rattle.balancer.specs.Shares.{Aim, aim_of}

-- what it goes by beside the map
abbrev pub asked_aim : Request → Aim
asked_aim r = aim_of r.carried.now r.apart
