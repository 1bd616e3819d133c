use Rattle.crush_laws.proofs.DevicesPlaced.{run_places_devices}
use Rattle.crush_laws.proofs.run_places_devices.Goals as goal

pub returns : goal.returns
returns c = run_places_devices
