mod LowerPlanes
