mod ListSums
mod LowerPlanes
mod PacketBytes
mod LeastLengths
mod Stops
mod Found
mod Changes
mod Bounds
